use Rattle.mr_names_tree.proofs.Making.{Going}
use Rattle.mr_names_tree.proofs.links.add_dirs.Given as goal

abbrev pub invariant-loop-name : goal.invariant-loop-name
invariant-loop-name l = Going l.fn.nodes l.nodes l.start l.at l.names l.name-index
