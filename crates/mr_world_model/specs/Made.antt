-- What each step of a master's past is, in every run.
-- What a packet asks and what is launched is the job's, and a store call is the one that was due: for whoever reasons about a master's past alone.
-- Our own: it ties the cluster to the crates beneath it.
use Rattle.std.specs.Prelude.{◌≡◌, ℕ, ◌-◌, ◌*◌, ◌≤◌, ◌<◌, true, false, nat_lt, List, [], ◌∷◌, Some, None, length}
use Rattle.mr_world_model.specs.Ids.{Attempt, is_reduce}
use Rattle.mr_world_model.specs.Records.{Record, AttemptStarted, MapSucceeded, ReduceSucceeded, AttemptFailed, JobUnsuccessful}
use Rattle.mr_world_model.specs.Packets.{Config, Packet, Pending, Poll, Where}
use Rattle.mr_world_model.specs.Hearing.{Seen, is_running}
use Rattle.mr_world_model.specs.Duties.{Master_step, Came, Launches, Expires, Asks, seen, duty_of, records_of}
use Rattle.mr_world_model.specs.World.{Event, Master_act, master_act, seen_by, launch_of}
use Rattle.mr_world_model.specs.Effect.{is_task, task_fault, not_now}
use Rattle.mr_world_model.specs.Claims.{In, Limits, world_of}
use Rattle.mr_world_model.specs.Calls.{AllFit, AllOfJob}

-- an attempt at a task of the job, that one of the first n generations launched
abbrev pub BelongsTo : Config → ℕ → Attempt → Type 0
BelongsTo cfg n a = (a.number < 1000 * n) × (is_task cfg a.task ≡ true)

-- a success that is told is of such an attempt, and of its kind
abbrev pub TellsOf : Config → ℕ → Record → Type 0
TellsOf cfg n (AttemptStarted a m) = Unit {0}
TellsOf cfg n (MapSucceeded a m i) = BelongsTo cfg n a × (is_reduce a ≡ false)
TellsOf cfg n (ReduceSucceeded a bytes) = BelongsTo cfg n a × (is_reduce a ≡ true)
TellsOf cfg n (AttemptFailed a) = Unit {0}
TellsOf cfg n JobUnsuccessful = Unit {0}

-- who asks to commit is a reduce, and the map that is asked for is one of the job's
abbrev pub IsAsked : Config → Packet → Type 0
IsAsked cfg (Pending a) = is_reduce a ≡ true
IsAsked cfg (Poll a) = is_reduce a ≡ true
IsAsked cfg (Where c m) = nat_lt m (length cfg.splits) ≡ true
IsAsked cfg _ = Unit {0}

-- What a packet asks is of the job. A launch is the next one of a task of the job that has no fault, on a node, and an expiry is a node's. A store call is the
-- one that was due, and what is read was written by earlier generations.
abbrev pub IsMade : Config → ℕ → Seen → Master_step → Type 0
IsMade cfg k s (Came p) = IsAsked cfg p
IsMade cfg k s (Launches l) =
    (l ≡ launch_of k s l.attempt.task l.node) × (1 ≤ k) × (is_running s.phase ≡ true) × (is_task cfg l.attempt.task ≡ true)
    × (nat_lt l.node cfg.nodes ≡ true) × (task_fault s l.attempt.task ≡ None)
IsMade cfg k s (Expires n) = (is_running s.phase ≡ true) × (nat_lt n cfg.nodes ≡ true)
IsMade cfg k s (Asks call r) = (duty_of cfg k s s.phase ≡ Some call) × ((x : Record) → In x (records_of r) → TellsOf cfg (k - 1) x)

abbrev pub AllMade : Config → ℕ → List Master_step → Type 0
AllMade cfg k [] = Unit {0}
AllMade cfg k (x ∷ h) = IsMade cfg k (seen cfg k h) x × AllMade cfg k h

-- In every run, each step of each master's past is so, and so is the step that an event that may happen next makes. Where they are, all launches and all that is
-- taken over fit, and are the job's.
pub record PastsAreMade : Type 0 where
  pub made : (cfg : Config) (within : Limits) (es : List Event) (k : ℕ) → AllMade cfg k ((world_of cfg within es).master_past k)
  pub next : (cfg : Config) (within : Limits) (es : List Event) (e : Event) (a : Master_act) → not_now cfg (world_of cfg within es) e ≡ None
      → master_act cfg (world_of cfg within es) e ≡ Some a → IsMade cfg a.who (seen_by cfg (world_of cfg within es) a.who) a.step
  pub fit : (cfg : Config) (k : ℕ) (h : List Master_step) → AllMade cfg k h → AllFit cfg k h
  pub of_job : (cfg : Config) (k : ℕ) (h : List Master_step) → AllMade cfg k h → AllOfJob cfg k h
