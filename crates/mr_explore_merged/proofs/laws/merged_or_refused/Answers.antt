use Rattle.mr_explore_merged.proofs.Refused.{merged_or_refused_law}
use Rattle.mr_explore_merged.proofs.laws.merged_or_refused.Goals as goal

pub returns : goal.returns
returns c = merged_or_refused_law
