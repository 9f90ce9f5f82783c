-- What a script makes of a cluster, a command at a time: its events and those of its calms (our own profile). The cluster is the run of the events.
use Rattle.std.specs.Prelude.{ℕ, zero, suc, ◌+◌, ◌%◌, Bool, true, false, ◌&&◌, ◌||◌, not, nat_lt, nat_le, List, [], ◌∷◌, ◌++◌, length, drop, Option, Some, None, if◌then◌else◌, is_some, codes, decimal}
use Rattle.std.specs.BTreeSet.{insert_key}
use Rattle.std.specs.List.{list_any}
use Rattle.std.specs.Ordering.{is_eq, nat_cmp}
use Rattle.std.specs.Option.{option_map, option_and_then, option_or, option_to_list}
use Rattle.mr_task.specs.declared.fault.TaskFault.{TaskFault}
use Rattle.mr_task.specs.declared.fault.TaskFault.TheVariants as task_fault
use Rattle.mr_packet.specs.declared.packet.ContainerId.{ContainerId}
use Rattle.mr_packet.specs.declared.packet.Envelope.{Envelope}
use Rattle.mr_world_events.specs.declared.why.Why.{Why}
use Rattle.mr_world_events.specs.declared.why.Why.TheVariants as why
use Rattle.mr_world_model.specs.Packets.{Config}
use Rattle.mr_world_model.specs.Hearing.{Phase, Finished, Stopped}
use Rattle.mr_world_model.specs.World.{World, Event, Calm, Compute, ContainerStep, Deliver, Die, Duty, LaunchOn, duty, seen_by, wish_of}
use Rattle.mr_world_model.specs.Effect.{addressee, not_now, wants_compute}
use Rattle.mr_world_model.specs.Claims.{Limits, world_of}
use Rattle.mr_world_model.specs.Sequential.{Job, Input, made_of, most_output}
use Rattle.mr_world_model.specs.Wanted.{wanted}
use Rattle.mr_master_refinement.specs.Works.{named}
use Rattle.mr_world.specs.declared.limits.TheConstants.{MAX_EVENTS}
use Rattle.mr_world.specs.Readings.{input_in, living, next_living, wish_by}
use Rattle.mr_script.specs.declared.command.Command.{Command}
use Rattle.mr_script.specs.declared.command.Command.TheVariants as command
use Rattle.mr_script.specs.declared.command.Until.{Until}
use Rattle.mr_script.specs.declared.command.Until.TheVariants.{Most, Before, Through}
use Rattle.mr_script.specs.declared.expectation.Expectation.{Expectation}
use Rattle.mr_script.specs.declared.event_name.EventName.{EventName}
use Rattle.mr_script.specs.declared.event_name.EventName.TheVariants as name
use Rattle.mr_play.specs.EventNames.{duty_event, wish_event, stops_at}
use Rattle.mr_play.specs.Expectations.{is_met, unmet_line, value_in}

-- ---- how far a script is

pub record Played : Type 0 where
  pub events : List Event  -- those that were taken, the oldest first
  pub cursor : ℕ  -- how many packets of the bag the calms have delivered or passed over
  pub dropped : List ℕ  -- the packets that no calm delivers, by their places in the bag
  pub stepped : Option ContainerId  -- the container that calm or the script stepped last
  pub told : List ℕ  -- the lines of refused events and of unmet expectations, as they are printed
  pub met : Bool  -- every expectation so far is met

abbrev pub begun : Played
begun = record { events = []; cursor = 0; dropped = []; stepped = None; told = []; met = true }

-- ---- refused events

abbrev pub task_fault_word : TaskFault → List ℕ
task_fault_word task_fault.AlreadyWon = codes "AlreadyWon"
task_fault_word task_fault.TooManyLive = codes "TooManyLive"
task_fault_word task_fault.TooManyAttempts = codes "TooManyAttempts"
task_fault_word task_fault.Unknown = codes "Unknown"
task_fault_word task_fault.NoMemory = codes "NoMemory"

abbrev pub why_words : Why → List ℕ
why_words why.WrongGeneration = codes "WrongGeneration"
why_words why.NoMaster = codes "NoMaster"
why_words why.NoDuty = codes "NoDuty"
why_words why.NotRunning = codes "NotRunning"
why_words why.NoTask = codes "NoTask"
why_words why.NoNode = codes "NoNode"
why_words why.NoPacket = codes "NoPacket"
why_words why.NoAddressee = codes "NoAddressee"
why_words why.NoContainer = codes "NoContainer"
why_words why.WrongWish = codes "WrongWish"
why_words why.NoStoreCall = codes "NoStoreCall"
why_words why.NotBlocks = codes "NotBlocks"
why_words (why.Task fault) = codes "Task " ++ task_fault_word fault

abbrev pub refused_line : ℕ → Why → List ℕ
refused_line line reason = decimal line ++ codes ": NotNow " ++ why_words reason ++ 10 ∷ []

-- ---- what a calm makes next

-- an event, none where its work passes what it may give, and its names; who has stepped last then, and where the cursor is
pub record Next : Type 0 where
  pub names : List EventName
  pub event : Option Event
  pub stepped : Option ContainerId
  pub cursor : ℕ

-- the script dropped the packet at place n
abbrev pub is_dropped : List ℕ → ℕ → Bool
is_dropped dropped n = list_any (λ place. is_eq (nat_cmp n place)) dropped

-- a calm passes over the packet at place n: it was dropped, or goes to nobody who is alive
abbrev pub is_passed : World → List ℕ → ℕ → Envelope → Bool
is_passed w dropped n e = is_dropped dropped n || is_some (addressee w (Some e))

-- how many packets, from place n on, are passed over before one that is not
abbrev pub passed : World → List ℕ → ℕ → List Envelope → ℕ
passed w dropped n [] = 0
passed w dropped n (e ∷ es) = if is_passed w dropped n e then suc (passed w dropped (suc n) es) else 0

abbrev pub cursor_at : World → List ℕ → ℕ → ℕ
cursor_at w dropped n = n + passed w dropped n (drop n w.bag)

abbrev pub has_ended : Phase → Bool
has_ended (Finished succeeded) = true
has_ended Stopped = true
has_ended _ = false

-- the master is Ended, Stopped or not alive
abbrev pub is_through : Config → World → ℕ → Bool
is_through cfg w k = not (w.is_master k) || has_ended (seen_by cfg w k).phase

-- more than this a calm does not make, if it is not to go through
unfoldable pub most_calm : ℕ
most_calm = 10000

-- before which event a calm stops, if it is told one
abbrev pub stop_of : Until → Option EventName
stop_of Most = None
stop_of (Before n) = Some n
stop_of Through = None

-- How many events it makes at most. One that goes through makes as many as a journal holds, so it ends by its own rules, or at that limit.
unfoldable pub most_of : Until → ℕ
most_of Most = most_calm
most_of (Before n) = most_calm
most_of Through = MAX_EVENTS

module _ (job : Job) (cfg : Config) (within : Limits) where
  -- the definition's bytes of a container's input; its death where a user function or the shuffle refuses; no event
  -- where the bytes are too many
  abbrev pub result_of : ContainerId → Option (List ℕ) → Option Event
  result_of c None = Some (Die c)
  result_of c (Some bytes) = if nat_le (length bytes) most_output then Some (Compute c bytes) else None

  abbrev pub computed_of : ContainerId → Option Input → Option Event
  computed_of c None = Some (Compute c [])
  computed_of c (Some input) = result_of c (made_of job cfg input)

  -- what `compute` is an event of: with no bytes, which is refused, where the container has no input
  abbrev pub computing : World → ContainerId → Option Event
  computing w c = computed_of c (input_in cfg w c)

  abbrev pub stepping : World → ContainerId → Option Event
  stepping w c = if wants_compute (wish_of cfg w c) then computing w c else Some (ContainerStep c Calm)

  -- the packet at the cursor
  abbrev pub next_packet : World → Option ContainerId → ℕ → Option Next
  next_packet w last at = if nat_lt at (length w.bag) then Some (record { names = []; event = Some (Deliver at); stepped = last; cursor = at + 1 }) else None

  abbrev pub next_duty : World → ℕ → Option ContainerId → ℕ → Option Next
  next_duty w k last at = option_map (λ d. record { names = duty_event d.name ∷ []; event = Some (Duty k Calm); stepped = last; cursor = at }) (named (seen_by cfg w k).phase (duty cfg w k))

  abbrev pub next_launch : World → ℕ → Option ContainerId → ℕ → Option Next
  next_launch w k last at = option_map (λ t. record { names = name.Launch ∷ []; event = Some (LaunchOn k t (t.number % cfg.nodes)); stepped = last; cursor = at }) (wanted cfg (seen_by cfg w k))

  abbrev pub next_step : World → Option ContainerId → ℕ → Option Next
  next_step w last at =
      option_map (λ c. record { names = name.Step ∷ option_to_list (wish_event (wish_by cfg (w.place c) (w.container_past c))); event = stepping w c; stepped = Some c; cursor = at }) (next_living (living cfg w) last)

  -- the first that is there of these four
  abbrev pub next_of : World → ℕ → Option ContainerId → ℕ → Option Next
  next_of w k last at = option_or (next_packet w last at) (option_or (next_duty w k last at) (option_or (next_launch w k last at) (next_step w last at)))

  -- ---- events and commands; none where a limit is passed

  abbrev pub world : Played → World
  world s = world_of cfg within s.events

  -- a permitted event is taken if no limit forbids it, that of a journal's events among them
  abbrev pub taken : Event → Option ContainerId → Played → Option Played
  taken e last s = if nat_lt (length s.events) MAX_EVENTS && within (world s) e then Some (record s { events = s.events ++ e ∷ []; stepped = last }) else None

  abbrev pub unless_refused : ℕ → Event → Option ContainerId → Played → Option Why → Option Played
  unless_refused line e last s None = taken e last s
  unless_refused line e last s (Some reason) = Some (record s { told = s.told ++ refused_line line reason })

  -- the event of a line
  abbrev pub made : ℕ → Event → Option ContainerId → Played → Option Played
  made line e last s = unless_refused line e last s (not_now cfg (world s) e)

  -- one event of a calm, and the rest of it; an event that is not permitted would end it
  abbrev pub calmed : (Played → Option Played) → Event → Option ContainerId → Played → Option Why → Option Played
  calmed more e last s None = option_and_then more (taken e last s)
  calmed more e last s (Some reason) = Some s

  abbrev pub calmed_by : Option EventName → (Played → Option Played) → Played → Option Next → Option Played
  calmed_by stop more s None = Some s
  calmed_by stop more s (Some next) =
      if stops_at stop next.names then Some s
      else option_and_then (λ e. calmed more e next.stepped (record s { cursor = next.cursor }) (not_now cfg (world s) e)) next.event

  -- a calm of at most this many events
  abbrev pub calms : ℕ → Option EventName → ℕ → Played → Option Played
  calms k stop zero s = Some s
  calms k stop (suc most) s =
      if is_through cfg (world s) k then Some s
      else calmed_by stop (calms k stop most) (record s { cursor = cursor_at (world s) s.dropped s.cursor }) (next_of (world s) k s.stepped (cursor_at (world s) s.dropped s.cursor))

  -- who has stepped last, after an event of the script
  abbrev pub stepped_by : Event → Option ContainerId → Option ContainerId
  stepped_by (ContainerStep c fault) last = Some c
  stepped_by _ last = last

  -- from here on no calm delivers this packet, whether or not it was sent yet
  abbrev pub losing : ℕ → Played → Played
  losing place s = record s { dropped = insert_key nat_cmp s.dropped place }

  -- what a line expects: where it is not so, the line is told
  abbrev pub expecting : ℕ → Expectation → Played → Played
  expecting line e s = if is_met cfg (world s) e then s else record s { told = s.told ++ unmet_line line e (value_in cfg (world s) e); met = false }

  abbrev pub obeyed : ℕ → Command → Played → Option Played
  obeyed line (command.Makes e) s = made line e (stepped_by e s.stepped) s
  obeyed line (command.Compute c) s = option_and_then (λ e. made line e (Some c) s) (computing (world s) c)
  obeyed line (command.Calm k until) s = calms k (stop_of until) (most_of until) s
  obeyed line (command.Drop place) s = Some (losing place s)
  obeyed line (command.Expect e) s = Some (expecting line e s)

  -- commands with their lines, in turn
  abbrev pub played : List (ℕ × Command) → Played → Option Played
  played [] s = Some s
  played (c ∷ cs) s = option_and_then (played cs) (obeyed c.0 c.1 s)
