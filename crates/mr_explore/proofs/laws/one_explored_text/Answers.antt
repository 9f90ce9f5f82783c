use Rattle.mr_explore.proofs.OneText.{one_text_law}
use Rattle.mr_explore.proofs.laws.one_explored_text.Goals as goal

pub returns : goal.returns
returns c = one_text_law c.one_seq_text.ensures
