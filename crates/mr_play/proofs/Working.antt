-- What works are given.
use Rattle.std.proofs.Common.{Bool, true, false, cond, None, IfSome}
use Rattle.mr_packet.specs.declared.packet.ContainerId.{ContainerId}
use Rattle.mr_world_model.specs.Packets.{Config}
use Rattle.mr_world_model.specs.World.{World}
use Rattle.mr_world_model.specs.Sequential.{input_of}
use Rattle.mr_container_work.specs.Works as works
use Rattle.mr_container_work.proofs.Inputs as given
use Rattle.mr_world.specs.Ranges.{IsInRange}
use Rattle.mr_world.specs.Readings.{input_in}
use Rattle.mr_play.specs.Players.{IsShort}

-- what a container of a cluster is given is a split that is not too long, or one piece for each map
pub inputs_are_short : (cfg : Config) (w : World) (c : ContainerId) → IsInRange cfg → IsShort (input_in cfg w c)
inputs_are_short cfg w c r = by (w.is_alive c) where
  by : (b : Bool) → IfSome (cond b (input_of cfg w c) None) works.IsShort
  by true = given.inputs_are_short cfg w c r.splits r.short
  by false = tt
