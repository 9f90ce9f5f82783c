-- What is read off the calls that one task got. Each reading is a function of the whole list, prefix by prefix: what a call
-- tells depends on what was read of the calls before it.
--
-- Apache Hadoop's application master is restated here. An attempt asks before it commits, the first to ask is the commit attempt, all
-- others are told no, and another may be when it fails. An attempt reports `commitPending` over the umbilical protocol, and then asks
-- `canCommit` until it hears yes. (See `TaskImpl.canCommit`, and `TaskImpl` on a failed commit attempt.) Our own profile is that those who
-- ask later wait in order, and that the name is for good once `Done` of the named attempt was heard. So are what counts as a failure, the
-- limits and the numbers.
use Rattle.std.specs.Prelude.{◌≡◌, ℕ, ◌+◌, ◌-◌, Bool, true, false, ◌&&◌, ◌||◌, not, nat_le, nat_lt, List, [], ◌∷◌, ◌++◌, filter, count_by, Option, Some, None, is_none, if◌then◌else◌}
use Rattle.std.specs.List.{list_any, find}
use Rattle.mr_ids.specs.Attempt.{Attempt}
use Rattle.mr_ids.specs.declared.id.TaskId.{TaskId}
use Rattle.mr_ids.specs.declared.id.TaskKind.{TaskKind}
use Rattle.mr_ids.specs.declared.id.TaskKind.TheVariants.{Map, Reduce}
use Rattle.mr_attempt.specs.declared.state.AttemptState.{AttemptState}
use Rattle.mr_attempt.specs.declared.state.AttemptState.TheVariants as state
use Rattle.mr_attempt.specs.declared.state.AttemptEvent.{AttemptEvent}
use Rattle.mr_attempt.specs.declared.state.AttemptEvent.TheVariants as event
use Rattle.mr_attempt.specs.Table.{state_after}
use Rattle.mr_ids.specs.Same.{same_task}
pub use Rattle.mr_ids.specs.Kind.{is_reduce}
pub use Rattle.mr_ids.specs.Generations.{first_attempt_number}
use Rattle.mr_grant.specs.Attempts.{same_attempt, has, first_of, is_first}
use Rattle.mr_task.specs.declared.fault.TaskFault.{TaskFault}
use Rattle.mr_task.specs.declared.fault.TaskFault.TheVariants.{AlreadyWon, TooManyLive, TooManyAttempts}
use Rattle.mr_task.specs.Calls.{TaskCall, Launches, Hears, Asks, Reports, Fails, Ends, Dies, Records, Recovers, Loses}

-- an attempt that is over, and whether by a failure
pub record Ending : Type 0 where
  pub attempt : Attempt
  pub is_failure : Bool

-- what was heard so far
pub record Seen : Type 0 where
  pub arrived : List Attempt  -- launched or recovered, the oldest first
  pub numbered : ℕ  -- how many numbers of this generation are given away
  pub asked : List Attempt  -- in the order in which each was first heard to ask
  pub ended : List Ending  -- over, the newest first
  pub accepted : List Attempt  -- those whose Done was accepted, and the recovered one
  pub recorded : List Attempt
  pub lost : List Attempt  -- maps' attempts that were recorded and whose output was lost
  pub is_fixed : Bool  -- Done of a reduce's named attempt was heard

abbrev pub nothing : Seen
nothing = record { arrived = []; numbered = 0; asked = []; ended = []; accepted = []; recorded = []; lost = []; is_fixed = false }

-- each of them is there once
abbrev pub AreDistinct : List Attempt → Type 0
AreDistinct [] = Unit {0}
AreDistinct (x ∷ xs) = (has xs x ≡ false) × AreDistinct xs

-- ---- over, live, named

abbrev pub is_over : List Ending → Attempt → Bool
is_over [] a = false
is_over (e ∷ es) a = same_attempt a e.attempt || is_over es a

-- whether the attempt is over by a failure
abbrev pub has_failed : List Ending → Attempt → Bool
has_failed [] a = false
has_failed (e ∷ es) a = if same_attempt a e.attempt then e.is_failure else has_failed es a

-- of those that asked, in their order, the ones that are not over
abbrev pub waiting_in : List Attempt → List Ending → List Attempt
waiting_in asked ended = filter (λ a. not (is_over ended a)) asked

-- the named attempt: of those that asked and are not over, the one that asked first
abbrev pub named_in : List Attempt → List Ending → Option Attempt
named_in asked ended = first_of (waiting_in asked ended)

abbrev pub named : Seen → Option Attempt
named s = named_in s.asked s.ended

abbrev pub is_named : Seen → Attempt → Bool
is_named s a = is_first (waiting_in s.asked s.ended) a

-- launched, its Done not accepted, and not over
abbrev pub is_live : Seen → Attempt → Bool
is_live s a = has s.arrived a && (not (has s.accepted a) && not (is_over s.ended a))

-- the live attempts, in order of arrival
abbrev pub live : Seen → List Attempt
live s = filter (is_live s) s.arrived

-- its Done was accepted, and its output is not lost
abbrev pub stands : Seen → Attempt → Bool
stands s a = has s.accepted a && not (has s.lost a)

-- the task has an attempt that is recorded or about to be
abbrev pub is_won : Seen → Bool
is_won s = list_any (stands s) s.arrived

-- its success is recorded, and its output is not lost
abbrev pub has_succeeded : Seen → Attempt → Bool
has_succeeded s a = has s.recorded a && not (has s.lost a)

-- the attempt that did, if there is one
abbrev pub succeeded : Seen → Option Attempt
succeeded s = find (has_succeeded s) s.arrived

-- how many attempts failed, which counts towards the task's limit
abbrev pub failures : Seen → ℕ
failures s = count_by (has_failed s.ended) s.arrived

-- ---- what a call may do

-- a reduce's Done is accepted while the attempt is named; a map's while it is live and the task is not won
abbrev pub may_accept_of : TaskKind → Seen → Attempt → Bool
may_accept_of Reduce s a = is_named s a
may_accept_of Map s a = not (is_over s.ended a) && not (is_won s)

abbrev pub may_accept : Seen → Attempt → Bool
may_accept s a = has s.arrived a && (not (has s.accepted a) && may_accept_of a.task.kind s a)

-- why no attempt is launched, memory aside: by whether the task is won, how many attempts are live, and how many numbers are
-- given away
abbrev pub refusal_of : Bool → ℕ → ℕ → Option TaskFault
refusal_of won live_ones numbers =
    if won then Some AlreadyWon else
    if nat_le 2 live_ones then Some TooManyLive else
    if nat_le 1000 numbers then Some TooManyAttempts else None

abbrev pub launch_refusal : Seen → Option TaskFault
launch_refusal s = refusal_of (is_won s) (count_by (is_live s) s.arrived) s.numbered

-- the attempt that generation k launches next
abbrev pub next_attempt : TaskId → ℕ → Seen → Attempt
next_attempt t k s = record { task = t; number = first_attempt_number k + s.numbered }

-- only a task with no attempt recovers one, and only its own
abbrev pub may_recover : TaskId → Seen → Attempt → Bool
may_recover t s a = is_none (first_of s.arrived) && same_task a.task t

-- a recovered attempt that has a number of generation k was launched by it, and so were those with lower numbers
abbrev pub numbered_up_to : ℕ → Attempt → ℕ
numbered_up_to k a =
    if nat_le (first_attempt_number k) a.number && nat_lt a.number (first_attempt_number k + 1000) then a.number - first_attempt_number k + 1 else 0

-- ---- what is heard. Whatever is said of an unknown attempt is not heard

abbrev pub after_launch : TaskId → ℕ → Seen → Seen
after_launch t k s = record s { arrived = s.arrived ++ next_attempt t k s ∷ []; numbered = s.numbered + 1 }

abbrev pub after_ask : Seen → Attempt → Seen
after_ask s a = if has s.arrived a && not (has s.asked a) then record s { asked = s.asked ++ a ∷ [] } else s

abbrev pub after_done : Seen → Attempt → Seen
after_done s a = if may_accept s a then record s { accepted = a ∷ s.accepted; is_fixed = is_reduce a.task.kind || s.is_fixed } else s

-- only a live attempt ends
abbrev pub after_end : Seen → Attempt → Bool → Seen
after_end s a is_failure = if is_live s a then record s { ended = record { attempt = a; is_failure = is_failure } ∷ s.ended } else s

abbrev pub after_record : Seen → Attempt → Seen
after_record s a = if has s.accepted a then record s { recorded = a ∷ s.recorded } else s

abbrev pub after_recovery : TaskId → ℕ → Seen → Attempt → Seen
after_recovery t k s a =
    if may_recover t s a
    then record s { arrived = a ∷ []; accepted = a ∷ []; recorded = a ∷ []; numbered = numbered_up_to k a }
    else s

abbrev pub after_loss : Seen → Attempt → Seen
after_loss s a = if not (is_reduce a.task.kind) && has s.recorded a then record s { lost = a ∷ s.lost } else s

unfoldable pub next_seen : TaskId → ℕ → Seen → TaskCall → Seen
next_seen t k s Launches = if is_none (launch_refusal s) then after_launch t k s else s
next_seen t k s (Hears a) = s
next_seen t k s (Asks a) = after_ask s a
next_seen t k s (Reports a) = after_done s a
next_seen t k s (Fails a) = after_end s a true
next_seen t k s (Ends a was_asked) = after_end s a (not was_asked)
next_seen t k s (Dies a) = after_end s a false
next_seen t k s (Records a) = after_record s a
next_seen t k s (Recovers a) = after_recovery t k s a
next_seen t k s (Loses a) = after_loss s a

-- what is read off the calls that the machine of task t in generation k got
unfoldable pub seen : TaskId → ℕ → List TaskCall → Seen
seen t k [] = nothing
seen t k (call ∷ calls) = next_seen t k (seen t k calls) call

-- ---- the state of an attempt, by the table of attempts

abbrev pub only : Bool → List AttemptEvent → List AttemptEvent
only b events = if b then events else []

-- what a call is to attempt a in that table
abbrev pub ended_as : Bool → AttemptEvent
ended_as true = event.Kill
ended_as false = event.Fail

unfoldable pub events_by : TaskId → ℕ → Seen → TaskCall → Attempt → List AttemptEvent
events_by t k s Launches a = only (is_none (launch_refusal s) && same_attempt a (next_attempt t k s)) (event.Launch ∷ [])
events_by t k s (Hears b) a = only (same_attempt a b) (event.Heard ∷ [])
events_by t k s (Asks b) a = only (same_attempt a b) (event.Pending ∷ [])
events_by t k s (Reports b) a = only (same_attempt a b && may_accept s b) (event.Done ∷ [])
events_by t k s (Fails b) a = only (same_attempt a b) (event.Fail ∷ [])
events_by t k s (Ends b was_asked) a = only (same_attempt a b) (ended_as was_asked ∷ [])
events_by t k s (Dies b) a = only (same_attempt a b) (event.Kill ∷ [])
events_by t k s (Records b) a = only (same_attempt a b) (event.Recorded ∷ [])
events_by t k s (Recovers b) a = only (same_attempt a b && may_recover t s b) (event.Recorded ∷ event.Done ∷ event.Launch ∷ [])
events_by t k s (Loses b) a = only (same_attempt a b) (event.Lost ∷ [])

-- all events of attempt a, the newest first
unfoldable pub events_of : TaskId → ℕ → List TaskCall → Attempt → List AttemptEvent
events_of t k [] a = []
events_of t k (call ∷ calls) a = events_by t k (seen t k calls) call a ++ events_of t k calls a

-- the state of attempt a: where the table leads it
unfoldable pub state_of : TaskId → ℕ → List TaskCall → Attempt → AttemptState
state_of t k calls a = state_after a.task.kind (events_of t k calls a)

abbrev pub is_succeeded : AttemptState → Bool
is_succeeded state.Succeeded = true
is_succeeded _ = false

-- the Succeeded attempt
abbrev pub winner : TaskId → ℕ → List TaskCall → Option Attempt
winner t k calls = find (λ a. is_succeeded (state_of t k calls a)) (seen t k calls).arrived
