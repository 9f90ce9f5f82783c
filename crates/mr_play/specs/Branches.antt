-- What the calls of a player promise that is taken further by parts.
use Rattle.std.specs.Prelude.{◌≡◌, Bool, true, false, Option, Some, None, Result, Ok, Err, is_none, if◌then◌else◌}
use Rattle.mr_packet.specs.declared.packet.ContainerId.{ContainerId}
use Rattle.mr_world_model.specs.World.{Event}
use Rattle.mr_world_model.specs.Effect.{not_now}
use Rattle.mr_world.specs.Limits.{within}
use Rattle.std.specs.declared.alloc.AllocError.{AllocError}
use Rattle.mr_play.specs.declared.player.Player.{Player}
use Rattle.mr_play.specs.Text.{job_as}
use Rattle.mr_play.specs.Played.{Played, stepped_by, taken}
use Rattle.mr_play.specs.Players.{SameJob, cluster_in, state_in}

-- a player of the same job that is as far
pub record Forks (old new : Player) : Type 0 where
  pub job : new.job ≡ old.job
  pub config : new.world.config ≡ old.world.config
  pub state : state_in new ≡ state_in old

-- what an event makes that happens as that of a line; none where it is not permitted or passes a limit
abbrev pub told_by : Player → Event → Option Played
told_by p e =
    if is_none (not_now p.world.config (cluster_in p) e)
    then taken (job_as p.job) p.world.config (within p.world.config) e (stepped_by (job_as p.job) p.world.config (within p.world.config) e p.stepped) (state_in p)
    else None

-- what is tried is done where it can be; nothing is said of the player where it can't, or where there was no memory
abbrev pub Tries : Player → Option Played → Result Bool AllocError → Player → Type 0
Tries old said (Ok true) new = SameJob old new × (said ≡ Some (state_in new))
Tries old said (Ok false) new = said ≡ None
Tries old said (Err f) new = Unit {0}
