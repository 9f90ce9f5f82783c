use Rattle.std.proofs.Common.{length}
use Rattle.mr_names_tree.proofs.Visiting.{Visits, flat}
use Rattle.mr_names_tree.proofs.tree.Tree.walk.Given as goal

-- what was found, and then what is ahead, is all
abbrev pub invariant-loop-next : goal.invariant-loop-next
invariant-loop-next l = Visits l.self-inside.nodes l.self-inside.root l.self-inside.held.0 l.self-inside.held.1 l.found l.ahead.items

abbrev pub decreases-loop-next : goal.decreases-loop-next
decreases-loop-next l = length (flat l.self-inside.nodes l.self-inside.root l.self-inside.held.0 l.self-inside.held.1 l.ahead.items)
