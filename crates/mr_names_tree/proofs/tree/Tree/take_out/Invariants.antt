use Rattle.std.proofs.Common.{◌≡◌}
use Rattle.std.specs.FinMap as finite
use Rattle.mr_names_tree.specs.Content.{without}
use Rattle.mr_names_tree.proofs.tree.Tree.take_out.Given as goal

abbrev pub invariant-loop : goal.invariant-loop
invariant-loop l = without l.top l.self ≡ without l.top l.fn.self

abbrev pub decreases-loop : goal.decreases-loop
decreases-loop l = finite.len l.self
