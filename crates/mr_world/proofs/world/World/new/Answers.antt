use Rattle.std.proofs.Common.{subst, sym}
use Rattle.mr_world.specs.Journal.{Keeps}
use Rattle.mr_world.proofs.Journals.{keeps-none}
use Rattle.mr_world.proofs.world.World.new.Goals as goal

pub invariant_of-result : goal.invariant_of-result
invariant_of-result c = subst (Keeps c.in_ok-parts.parts) (sym c.new-2.ensures.items) (keeps-none c.in_ok-parts.parts c.in_ok-parts.ensures.opens c.in_ok-parts.ensures.history)
