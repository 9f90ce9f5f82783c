use Rattle.mr_names.proofs.CallLaws as laws
use Rattle.mr_names.proofs.TreeLaws.{tree_effect, tree_root}
use Rattle.mr_names.proofs.laws.stays_tree.Goals as goal

pub returns : goal.returns
returns c = record { stays = tree_effect; opening = tree_root; absent = laws.nothing_beneath; files = laws.files_are_leaves }
