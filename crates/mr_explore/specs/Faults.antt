-- What one fault is, and where it may befall a run (our own profile). Without a fault a run goes on as a calm of the
-- newest master does, unless in vain. One that is deep goes on there too.
use Rattle.std.specs.Prelude.{ℕ, suc, ◌&&◌, not, Bool, false, nat_lt, List, [], ◌∷◌, ◌++◌, drop, length, map, slice_get, Option, Some, None, is_none, if◌then◌else◌}
use Rattle.std.specs.List.{flat_map, range_with_len}
use Rattle.mr_world_events.specs.declared.event.Weather.TheVariants.{Calm, Unavailable, Unanswered}
use Rattle.mr_ids.specs.declared.id.TheConstants.{MAX_APP_ATTEMPTS}
use Rattle.mr_ids.specs.declared.id.TaskKind.TheVariants.{Map, Reduce}
use Rattle.mr_world_model.specs.Packets.{Config}
use Rattle.mr_world_model.specs.World.{Event, Start, Crash, Duty, LaunchOn, Deliver, ContainerStep, Die, NodeRestart, Expire}
use Rattle.mr_world_model.specs.Effect.{not_now}
use Rattle.mr_world_model.specs.Claims.{Limits}
use Rattle.mr_world_model.specs.Sequential.{Job}
use Rattle.mr_play.specs.mr_world.specs.declared.limits.TheConstants.{MAX_EVENTS}
use Rattle.mr_play.specs.mr_world.specs.Histories.{history_of, stable_bytes}
use Rattle.mr_play.specs.mr_world.specs.Readings.{living, unflushed_in}
use Rattle.mr_packet.specs.declared.packet.ContainerId.{ContainerId}
use Rattle.mr_play.specs.Played.{Played, calms, losing, stepped_by, taken, world}
use Rattle.mr_explore_search.specs.Steps.{Onward, Goes, Ends, Full}
use Rattle.mr_explore_faults.specs.declared.fault.Fault.{Fault}
use Rattle.mr_explore_faults.specs.declared.fault.Fault.TheVariants as fault
use Rattle.mr_explore_faults.specs.Kinds.{ends_from, of_delivered, of_kept, of_node, of_tasks}
use Rattle.mr_explore_faults.specs.Next.{without_next}
use Rattle.mr_explore.specs.Vain.{all_wait, ask_behind, most_ahead}

-- of bytes that these go on from: how many of those behind them there are up to each line feed
abbrev pub ends_behind : List ℕ → List ℕ → List ℕ
ends_behind before after = ends_from 0 (drop (length before) after)

-- No run is cut by a number of events, unless it is deep: a world takes no more than these.
unfoldable pub most_events : ℕ
most_events = MAX_EVENTS

-- how many events a run makes by itself at most, behind the script, each fault and what comes late: of one that is deep it is told
abbrev pub most_onward : Option ℕ → ℕ
most_onward None = most_events
most_onward (Some events) = events

-- What comes of an event or a fault: this is how far the run is then; or it is not permitted where the run is; or it is
-- permitted, and a limit forbids it, behind which nothing comes of the run
pub data Fate : Type 0 where
  Happens : Played → Fate
  NotPermitted : Fate
  PastLimit : Played → Fate

-- what is taken happens; what is not would pass a limit
abbrev pub unless_past : Played → Option Played → Fate
unless_past s None = PastLimit s
unless_past s (Some t) = Happens t

-- and then something more
abbrev pub and_then : (Played → Fate) → Fate → Fate
and_then more (Happens s) = more s
and_then more NotPermitted = NotPermitted
and_then more (PastLimit s) = PastLimit s

-- a calm of one event made it, or there was none
abbrev pub onward_by : Played → Option Played → Onward Played
onward_by s None = Full
onward_by s (Some t) = if nat_lt (length s.events) (length t.events) then Goes t else Ends t

-- a store call that comes next may fail, and a packet that comes next may be passed over
abbrev pub of_event : Option Event → List Fault
of_event (Some (Duty k weather)) = fault.Duty Unavailable ∷ fault.Duty Unanswered ∷ []
of_event (Some (ContainerStep c weather)) = fault.Step c Unavailable ∷ fault.Step c Unanswered ∷ []
of_event (Some (Deliver i)) = fault.Lost i ∷ []
of_event _ = []

module _ (job : Job) (cfg : Config) (within : Limits) where
  abbrev pub newest : Played → ℕ
  newest s = (world job cfg within s).fence

  -- at most `most` events of the calm of the newest master; none where a limit is passed
  abbrev pub calm : ℕ → Played → Option Played
  calm most s = calms job cfg within (newest s) None most s

  -- ---- how a run goes on by itself: as a calm of the newest master, unless it goes on in vain and is not deep

  abbrev pub only_asked : List ContainerId → (n sent : ℕ) → Option Played → Bool
  only_asked cs n sent None = false
  only_asked cs n sent (Some t) = ask_behind cs n sent (world job cfg within t) t.events

  -- the next events of the calm are there, and they only ask
  abbrev pub asks_on : List ContainerId → Played → Bool
  asks_on cs s = only_asked cs (length s.events) (length (world job cfg within s).bag) (calm (most_ahead cs) s)

  abbrev pub waits_in_vain : List ContainerId → Played → Bool
  waits_in_vain cs s = all_wait cfg (world job cfg within s) cs && asks_on cs s

  -- all who live wait, and whatever they ask in both of their ways is not answered, or is answered by no
  abbrev pub goes_in_vain : Played → Bool
  goes_in_vain s = waits_in_vain (living cfg (world job cfg within s)) s

  abbrev pub onward : (deep : Bool) → Played → Onward Played
  onward deep s = if not deep && goes_in_vain s then Ends s else onward_by s (calm 1 s)

  -- an event happens, as that of a line; none where it is not permitted or passes a limit
  abbrev pub told : Event → Played → Option Played
  told e s = if is_none (not_now cfg (world job cfg within s) e) then taken job cfg within e (stepped_by job cfg within e s.stepped) s else None

  -- ---- what a fault does, or what it put off, where master k is the newest

  -- the same of an event, where a limit is told apart
  abbrev pub happening : Event → Played → Fate
  happening e s = if is_none (not_now cfg (world job cfg within s) e) then unless_past s (taken job cfg within e (stepped_by job cfg within e s.stepped) s) else NotPermitted

  -- the master behind k starts; there is a last one
  abbrev pub starting : (k kept : ℕ) → Played → Fate
  starting k kept s = if nat_lt k MAX_APP_ATTEMPTS then happening (Start (suc k) kept) s else PastLimit s

  -- the next master starts, if the newest one is not alive; one that is alive has so many bytes that it did not flush
  abbrev pub starts_next : ℕ → Option ℕ → Played → Fate
  starts_next k None s = starting k 0 s
  starts_next k (Some unflushed) s = NotPermitted

  abbrev pub befallen_by : ℕ → Fault → Played → Fate
  befallen_by k (fault.Duty weather) s = happening (Duty k weather) s
  befallen_by k (fault.Step c weather) s = happening (ContainerStep c weather) s
  befallen_by k (fault.Lost i) s = Happens (losing job cfg within i s)
  befallen_by k (fault.Late i) s = happening (Deliver i) s
  befallen_by k (fault.Again i) s = happening (Deliver i) s
  befallen_by k (fault.Crash kept) s = and_then (starting k 0) (happening (Crash k kept) s)
  befallen_by k (fault.Halt kept) s = happening (Crash k kept) s
  befallen_by k fault.Next s = starts_next k (unflushed_in (world job cfg within s) k) s
  befallen_by k (fault.Superseded kept) s = starting k kept s
  befallen_by k (fault.SupersededLate kept) s = and_then (happening (Duty k Calm)) (starting k kept s)
  befallen_by k (fault.Death c) s = happening (Die c) s
  befallen_by k (fault.Restart n) s = happening (NodeRestart n) s
  befallen_by k (fault.Expiry n) s = happening (Expire k n) s
  befallen_by k (fault.Attempt t n) s = happening (LaunchOn k t n) s

  abbrev pub befallen : Fault → Played → Fate
  befallen f s = befallen_by (newest s) f s

  -- ---- what may befall a run where it is

  -- the event that it makes next by itself
  abbrev pub last_of : ℕ → Onward Played → Option Event
  last_of n (Goes t) = slice_get t.events n
  last_of n _ = None

  abbrev pub next_event : (deep : Bool) → Played → Option Event
  next_event deep s = last_of (length s.events) (onward deep s)

  abbrev pub stable_in : ℕ → Played → List ℕ
  stable_in k s = stable_bytes (history_of cfg s.events) k

  abbrev pub kept_in : ℕ → Played → Option Played → List ℕ
  kept_in k s None = []
  kept_in k s (Some t) = ends_behind (stable_in k s) (stable_in k t)

  -- Of what the newest master did not flush nothing may stay, or all up to the end of one of its records. What it did not flush is what stays after a crash that keeps all.
  abbrev pub kept_all : ℕ → Played → Option ℕ → List ℕ
  kept_all k s None = []
  kept_all k s (Some bytes) = kept_in k s (told (Crash k bytes) s)

  abbrev pub kept : Played → List ℕ
  kept s = kept_all (newest s) s (unflushed_in (world job cfg within s) (newest s))

  -- a packet that was delivered, a container, a node, a task
  abbrev pub of_world : Played → List Fault
  of_world s =
      flat_map (of_delivered s.events) (range_with_len 0 (length (world job cfg within s).bag))
      ++ map fault.Death (living cfg (world job cfg within s))
      ++ flat_map of_node (range_with_len 0 cfg.nodes)
      ++ of_tasks cfg.job Map (length cfg.splits) cfg.nodes
      ++ of_tasks cfg.job Reduce cfg.reduces cfg.nodes

  abbrev pub of_crashes : Played → List Fault
  of_crashes s = of_kept 0 ++ flat_map of_kept (kept s)

  abbrev pub listed : Option Event → Played → List Fault
  listed next s = of_event next ++ of_world s ++ of_crashes s

  -- All that may be tried. What it makes next anyway is no fault. What can't befall the run there is no fault.
  abbrev pub faults_by : Option Event → Played → List Fault
  faults_by next s = without_next next (listed next s)

  abbrev pub faults_at : (deep : Bool) → Played → List Fault
  faults_at deep s = faults_by (next_event deep s) s
