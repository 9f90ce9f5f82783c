-- Which task a Running master launches next, where whoever runs the cluster lets it (our own profile). It is the first that waits for a launch, maps before
-- reduces, and no reduce before every map is Succeeded. A launch of any other task that has no fault is permitted as well (`not_now`).
use Rattle.std.specs.Prelude.{ℕ, zero, suc, ◌≡◌, ◌<◌, Bool, true, false, ◌&&◌, not, nat_eq, nat_lt, Option, Some, None, if◌then◌else◌, length}
use Rattle.std.specs.Option.{option_or}
use Rattle.mr_world_model.specs.Ids.{TaskId, of_reduces, map_of, reduce_of}
use Rattle.mr_world_model.specs.Packets.{Config}
use Rattle.mr_world_model.specs.Hearing.{Seen, Placed, has, is_running, is_won, stands}
use Rattle.mr_world_model.specs.World.{World, LaunchOn, count_of, seen_by}
use Rattle.mr_world_model.specs.Effect.{is_task, live_count, not_now}

-- a task waits for a launch: no attempt at it is live, Recording or Succeeded, and this master has numbers left for it
abbrev pub waits : Seen → TaskId → Bool
waits s t = nat_eq (live_count s t s.launched) 0 && (not (is_won s (of_reduces t.kind) t) && nat_lt (count_of s.launched t) 1000)

-- the output of a map stands, and is recorded
abbrev pub is_recorded_in : Seen → Option Placed → Bool
is_recorded_in s None = false
is_recorded_in s (Some p) = has s.recorded p.attempt

abbrev pub map_succeeded : Seen → ℕ → Bool
map_succeeded s m = is_recorded_in s (stands s.standing m)

-- the first n maps are Succeeded
abbrev pub maps_succeeded : Seen → ℕ → Bool
maps_succeeded s zero = true
maps_succeeded s (suc n) = map_succeeded s n && maps_succeeded s n

-- the first that waits of the first n of some tasks
abbrev pub first_waiting : Seen → (ℕ → TaskId) → ℕ → Option TaskId
first_waiting s task zero = None
first_waiting s task (suc n) = option_or (first_waiting s task n) (if waits s (task n) then Some (task n) else None)

abbrev pub wanted_reduce : Config → Seen → Option TaskId
wanted_reduce cfg s = if maps_succeeded s (length cfg.splits) then first_waiting s (reduce_of cfg.job) cfg.reduces else None

-- the task that is launched next
abbrev pub wanted : Config → Seen → Option TaskId
wanted cfg s = if is_running s.phase then option_or (first_waiting s (map_of cfg.job) (length cfg.splits)) (wanted_reduce cfg s) else None

-- The task that is wanted may be launched, on any node. It waits, and no task of its kind with a lower number does. Where it is a reduce, every map is Succeeded.
pub record WantedMayBeLaunched : Type 0 where
  pub may : (cfg : Config) (w : World) (k n : ℕ) (t : TaskId) → w.is_master k ≡ true → nat_lt n cfg.nodes ≡ true → wanted cfg (seen_by cfg w k) ≡ Some t → not_now cfg w (LaunchOn k t n) ≡ None
  pub waiting : (cfg : Config) (s : Seen) (t : TaskId) → wanted cfg s ≡ Some t → waits s t ≡ true
  pub first : (cfg : Config) (s : Seen) (t u : TaskId) → wanted cfg s ≡ Some t → is_task cfg u ≡ true → u.kind ≡ t.kind → u.number < t.number → waits s u ≡ false
  pub maps_first : (cfg : Config) (s : Seen) (t : TaskId) (m : ℕ) → wanted cfg s ≡ Some t → of_reduces t.kind ≡ true → m < length cfg.splits → map_succeeded s m ≡ true
