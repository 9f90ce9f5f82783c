use Rattle.mr_world_model.proofs.Faithful.{whole_is_sequential, marked_files_are_sequential}
use Rattle.mr_world_model.proofs.sequential_files.Goals as goal

pub returns : goal.returns
returns c = record { whole = whole_is_sequential; files = marked_files_are_sequential }
