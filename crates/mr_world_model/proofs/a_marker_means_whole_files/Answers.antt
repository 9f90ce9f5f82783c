use Rattle.mr_world_model.proofs.Outcomes.{marker_means_complete}
use Rattle.mr_world_model.proofs.a_marker_means_whole_files.Goals as goal

pub returns : goal.returns
returns c = record { whole = marker_means_complete }
