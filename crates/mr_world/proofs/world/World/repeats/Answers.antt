use Rattle.std.proofs.Common.{subst, []}
use Rattle.mr_world.specs.Journal.{Journal}
use Rattle.mr_world.specs.Repeating.{CanFollow}
use Rattle.mr_world.proofs.Repeating.{repeats-from-start}
use Rattle.mr_world.proofs.world.World.repeats.Goals as goal

pub returns : goal.returns
returns c = subst (λ (j : Journal). CanFollow j.config [] j.events) c.self.view_is
    (repeats-from-start c.self.inside.parts.config c.self.inside.journal.items c.self.invariant.taken c.self.invariant.few)
