use Rattle.mr_explore_merged.proofs.OneMerged.{one_merged_law}
use Rattle.mr_explore_merged.proofs.laws.one_merged_text.Goals as goal

pub returns : goal.returns
returns c = one_merged_law c.one_seq_text.ensures c.explored_or_refused.ensures
