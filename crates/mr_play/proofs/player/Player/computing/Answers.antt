use Rattle.std.proofs.Common.{Option, subst}
use Rattle.std.specs.Option.{option_map}
use Rattle.mr_world_model.specs.Packets.{Config}
use Rattle.mr_world_model.specs.Sequential.{Input}
use Rattle.mr_world.specs.Limits.{within}
use Rattle.mr_world.specs.Readings.{as_input}
use Rattle.mr_play.specs.Text.{job_as}
use Rattle.mr_play.specs.Played.{computed_of}
use Rattle.mr_play.specs.Players.{IsEvent}
use Rattle.mr_play.proofs.player.Player.computing.Goals as goal

pub returns : goal.returns
returns c =
    let p = c.args.self.now in
    subst (λ (i : Option Input). IsEvent (computed_of (job_as p.job) p.world.config (within p.world.config) c.args.c.now i) c.computed.result) c.input.ensures
    (subst (λ (cfg : Config). IsEvent (computed_of (job_as p.job) cfg (within p.world.config) c.args.c.now (option_map as_input c.input.result)) c.computed.result) c.config-config.ensures
    (c.computed.ensures (within p.world.config)))
