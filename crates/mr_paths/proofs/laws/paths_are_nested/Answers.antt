use Rattle.mr_paths.proofs.Apart.{beneath_is, parent_of_child}
use Rattle.mr_paths.proofs.laws.paths_are_nested.Goals as goal

pub returns : goal.returns
returns c = record { beneath = beneath_is; child = parent_of_child }
