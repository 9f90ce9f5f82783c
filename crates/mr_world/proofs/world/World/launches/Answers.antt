use Rattle.std.proofs.Common.{◌≡◌, subst}
use Rattle.mr_world.specs.Journal.{Journal, run_of, world_in}
use Rattle.mr_world.specs.Limits.{launch_count}
use Rattle.mr_world.proofs.world.World.launches.Goals as goal

pub returns : goal.returns
returns c = subst (λ (j : Journal). c.launches.result ≡ launch_count (world_in j)) c.self.view_is
    (c.launches.ensures (run_of c.self.inside.parts.config c.self.inside.journal.items) c.self.invariant.stands)
