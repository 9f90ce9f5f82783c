use Rattle.mr_names_tree.proofs.Deleting.{Cutting}
use Rattle.mr_names_tree.proofs.links.cut_on.Given as goal

-- the node is beneath the top, and all that was cut is
abbrev pub invariant-loop-turn : goal.invariant-loop-turn
invariant-loop-turn l = Cutting l.fn.nodes l.nodes l.top l.start l.at
