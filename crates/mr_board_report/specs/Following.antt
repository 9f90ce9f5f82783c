-- Whether a run follows the plan of its faults (our own profile). A fault comes as soon as there are as many events as it says, before all else, and in the plan's order: it is
-- made, or the world refuses it. Behind a crash the next master starts at once, and keeps nothing of the unflushed history. All else is calm.
use Rattle.std.specs.Prelude.{◌≡◌, ℕ, ◌+◌, Bool, true, false, ◌&&◌, not, nat_eq, nat_lt, List, [], ◌∷◌, ◌++◌, length, slice_get, Option, Some, None, if◌then◌else◌}
use Rattle.mr_world_events.specs.declared.event.Event.{Event}
use Rattle.mr_world_events.specs.declared.event.Event.TheVariants as event
use Rattle.mr_world_events.specs.declared.plan.PlanAct.{PlanAct}
use Rattle.mr_world_events.specs.declared.plan.PlanAct.TheVariants as act
use Rattle.mr_world_events.specs.declared.plan.PlanFault.{PlanFault}
use Rattle.mr_world_events.specs.declared.why.Why.{Why}
use Rattle.mr_world_model.specs.Effect.{is_calm, not_now}
use Rattle.mr_world_model.specs.Packets.{Config}
use Rattle.mr_world_model.specs.World.{World}
use Rattle.mr_board.specs.mr_world.specs.Journal.{Journal, world_in}
use Rattle.mr_board_report.specs.declared.plan.Plan.{Plan}

-- ---- what is due

-- the newest master crashed, and none started behind it
abbrev pub has_crashed : World → Bool
has_crashed w = nat_lt 0 w.fence && not (w.is_master w.fence)

-- this fault, where it is due after this many events
abbrev pub due_after : ℕ → Option PlanFault → Option PlanFault
due_after events None = None
due_after events (Some f) = if nat_lt events f.after then None else Some f

-- where this many faults of a plan came: the next one, if it is due
abbrev pub due : List PlanFault → ℕ → Journal → Option PlanFault
due faults came j = due_after (length j.events) (slice_get faults came)

-- ---- events

-- what a fault does, where the newest master is of this generation
abbrev pub event_of : ℕ → PlanAct → Event
event_of newest (act.Node node) = event.NodeRestart node
event_of newest (act.Master kept) = event.Crash newest kept
event_of newest (act.Expire node) = event.Expire newest node

-- what comes by itself: the start of the first master, and all that is calm
abbrev pub comes_by_itself : Event → Bool
comes_by_itself (event.Start k kept) = nat_eq k 1 && nat_eq kept 0
comes_by_itself (event.Crash k kept) = false
comes_by_itself (event.Duty k w) = is_calm w
comes_by_itself (event.LaunchOn k t n) = true
comes_by_itself (event.Deliver i) = true
comes_by_itself (event.ContainerStep c w) = is_calm w
comes_by_itself (event.Computed c bytes) = true
comes_by_itself (event.Die c) = true
comes_by_itself (event.NodeRestart n) = false
comes_by_itself (event.Expire k n) = false

abbrev pub with_event : Journal → Event → Journal
with_event j e = record { config = j.config; events = j.events ++ e ∷ [] }

-- ---- a run and its plan

-- how a journal comes about under a plan, and how many of its faults came: they were made, or the world refused them
pub data Planned (faults : List PlanFault) : ℕ → Journal → Type 0 where
  -- nothing has happened yet
  Opens : (config : Config) → Planned faults 0 (record { config = config; events = [] })
  -- while nothing is due, what comes by itself
  Went : (came : ℕ) (j : Journal) (e : Event) → Planned faults came j → has_crashed (world_in j) ≡ false → due faults came j ≡ None → comes_by_itself e ≡ true → Planned faults came (with_event j e)
  -- behind a crash the next master starts before all else, and keeps nothing
  Started : (came : ℕ) (j : Journal) → Planned faults came j → has_crashed (world_in j) ≡ true → Planned faults came (with_event j (event.Start ((world_in j).fence + 1) 0))
  -- the fault that is due is made
  Made : (came : ℕ) (j : Journal) (f : PlanFault) → Planned faults came j → has_crashed (world_in j) ≡ false → due faults came j ≡ Some f →
      Planned faults (came + 1) (with_event j (event_of (world_in j).fence f.act))
  -- or the world refuses it: it is not permitted there
  Refused : (came : ℕ) (j : Journal) (f : PlanFault) (why : Why) → Planned faults came j → has_crashed (world_in j) ≡ false → due faults came j ≡ Some f →
      not_now j.config (world_in j) (event_of (world_in j).fence f.act) ≡ Some why → Planned faults (came + 1) j

-- a run follows a plan. Faults that did not come until its end are dropped
abbrev pub Follows : Plan → Journal → Type 0
Follows plan j = (came : ℕ) × Planned plan.faults came j
