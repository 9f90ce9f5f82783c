-- What is read of two worlds is the same, by the words of mr_world. Our own.
use Rattle.std.specs.Prelude.{◌≡◌, ℕ, true, List}
use Rattle.mr_packet.specs.declared.packet.ContainerId.{ContainerId}
use Rattle.mr_world_model.specs.Packets.{Config}
use Rattle.mr_world_model.specs.World.{World, Event, duty, seen_by}
use Rattle.mr_world_model.specs.Claims.{Limits, world_of}
use Rattle.mr_master_refinement.specs.Works.{named}
use Rattle.mr_world_alike.specs.Alike.{Alike}
use Rattle.mr_world.specs.Readings.{phase_in, wanted_in, unflushed_in, place_in, wish_in, input_in, living}

-- Of each generation: the phase, the next task, what is not flushed, if its master lives, and its next store call with what that is for. Of each container: its
-- place, its wish and its input, if it lives. And who lives, in order.
pub record ShowTheSame (cfg : Config) (w u : World) : Type 0 where
  pub phases : (k : ℕ) → phase_in cfg w k ≡ phase_in cfg u k
  pub due : (k : ℕ) → w.is_master k ≡ true → named (seen_by cfg w k).phase (duty cfg w k) ≡ named (seen_by cfg u k).phase (duty cfg u k)
  pub wanted : (k : ℕ) → wanted_in cfg w k ≡ wanted_in cfg u k
  pub unflushed : (k : ℕ) → unflushed_in w k ≡ unflushed_in u k
  pub places : (c : ContainerId) → place_in w c ≡ place_in u c
  pub wishes : (c : ContainerId) → wish_in cfg w c ≡ wish_in cfg u c
  pub inputs : (c : ContainerId) → input_in cfg w c ≡ input_in cfg u c
  pub lives : living cfg w ≡ living cfg u

abbrev pub AlikeWorldsShowTheSame : Type 0
AlikeWorldsShowTheSame = (cfg : Config) (within : Limits) (es fs : List Event) → Alike cfg (world_of cfg within es) (world_of cfg within fs) → ShowTheSame cfg (world_of cfg within es) (world_of cfg within fs)
