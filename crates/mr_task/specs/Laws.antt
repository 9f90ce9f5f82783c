-- What follows from the readings alone, for every list of calls that the machine of a task can get, the newest first.
use Rattle.std.specs.Prelude.{◌≡◌, ℕ, ◌*◌, ◌≤◌, ◌<◌, Bool, true, false, ◌&&◌, not, List, ◌∷◌, ◌++◌, Some, None}
use Rattle.mr_ids.specs.Attempt.{Attempt}
use Rattle.mr_ids.specs.declared.id.TaskId.{TaskId}
use Rattle.mr_ids.specs.declared.id.TaskKind.TheVariants.{Reduce}
use Rattle.mr_grant.specs.Attempts.{has}
use Rattle.mr_task.specs.Calls.{TaskCall, Reports, Fails, Ends, Dies}
use Rattle.mr_attempt.specs.Table as table
use Rattle.mr_task.specs.declared.fault.TaskFault.TheVariants.{AlreadyWon}
use Rattle.mr_task.specs.Readings.{Seen, seen, state_of, is_live, stands, AreDistinct, is_over, is_won, failures, named, may_accept, launch_refusal, next_attempt, first_attempt_number, winner, succeeded}

-- The name moves only when the named attempt is over.
abbrev pub NameStays : Type 0
NameStays = (t : TaskId) (k : ℕ) (calls more : List TaskCall) (a : Attempt) → named (seen t k calls) ≡ Some a
    → is_over (seen t k (more ++ calls)).ended a ≡ false → named (seen t k (more ++ calls)) ≡ Some a

-- An attempt whose `Done` was accepted, and a recovered one, stays accepted and is never over afterwards.
pub record StaysAccepted (s : Seen) (a : Attempt) : Type 0 where
  pub accepted : has s.accepted a ≡ true
  pub is_not_over : is_over s.ended a ≡ false

abbrev pub AcceptedStays : Type 0
AcceptedStays = (t : TaskId) (k : ℕ) (calls more : List TaskCall) (a : Attempt) → has (seen t k calls).accepted a ≡ true
    → StaysAccepted (seen t k (more ++ calls)) a

-- A reduce's attempt whose `Done` was accepted is named from then on, whatever comes.
abbrev pub DoneIsForGood : Type 0
DoneIsForGood = (t : TaskId) (k : ℕ) (calls more : List TaskCall) (a : Attempt) → t.kind ≡ Reduce → may_accept (seen t k calls) a ≡ true
    → named (seen t k (more ++ Reports a ∷ calls)) ≡ Some a

-- Of one reduce at most one attempt is accepted.
abbrev pub OneIsAccepted : Type 0
OneIsAccepted = (t : TaskId) (k : ℕ) (calls : List TaskCall) (a b : Attempt) → t.kind ≡ Reduce
    → has (seen t k calls).accepted a ≡ true → has (seen t k calls).accepted b ≡ true → a ≡ b

-- Once an attempt of a reduce is accepted none is launched, nor recovered.
abbrev pub WonIsForGood : Type 0
WonIsForGood = (t : TaskId) (k : ℕ) (calls more : List TaskCall) → t.kind ≡ Reduce → is_won (seen t k calls) ≡ true
    → (is_won (seen t k (more ++ calls)) ≡ true) × ((seen t k (more ++ calls)).arrived ≡ (seen t k calls).arrived)

-- What never counts as a failure: a kill, an end that was asked for, and whatever end of an accepted attempt.
pub record NoFailures : Type 0 where
  pub killed : (t : TaskId) (k : ℕ) (calls : List TaskCall) (a : Attempt) → failures (seen t k (Dies a ∷ calls)) ≡ failures (seen t k calls)
  pub asked : (t : TaskId) (k : ℕ) (calls : List TaskCall) (a : Attempt) → failures (seen t k (Ends a true ∷ calls)) ≡ failures (seen t k calls)
  pub accepted_fails : (t : TaskId) (k : ℕ) (calls : List TaskCall) (a : Attempt) → has (seen t k calls).accepted a ≡ true → seen t k (Fails a ∷ calls) ≡ seen t k calls
  pub accepted_ends : (t : TaskId) (k : ℕ) (calls : List TaskCall) (a : Attempt) (was_asked : Bool) → has (seen t k calls).accepted a ≡ true
      → seen t k (Ends a was_asked ∷ calls) ≡ seen t k calls

-- The numbers of attempts never repeat, and those of generation k are from 1000 * (k - 1) and below 1000 * k.
pub record NumbersAreFresh : Type 0 where
  pub distinct : (t : TaskId) (k : ℕ) (calls : List TaskCall) → AreDistinct (seen t k calls).arrived
  pub fresh : (t : TaskId) (k : ℕ) (calls : List TaskCall) → launch_refusal (seen t k calls) ≡ None → has (seen t k calls).arrived (next_attempt t k (seen t k calls)) ≡ false
  pub from : (t : TaskId) (k : ℕ) (calls : List TaskCall) → first_attempt_number k ≤ (next_attempt t k (seen t k calls)).number
  pub below : (t : TaskId) (k : ℕ) (calls : List TaskCall) → 1 ≤ k → launch_refusal (seen t k calls) ≡ None → (next_attempt t k (seen t k calls)).number < 1000 * k

-- The state of an attempt tells what was heard of it. The Succeeded attempt is the one whose record was heard and whose output is not lost,
-- and where one is Recording or Succeeded none is launched.
pub record StatesTell : Type 0 where
  pub live : (t : TaskId) (k : ℕ) (calls : List TaskCall) (a : Attempt) → is_live (seen t k calls) a ≡ table.is_live (state_of t k calls a)
  pub stands : (t : TaskId) (k : ℕ) (calls : List TaskCall) (a : Attempt) → stands (seen t k calls) a ≡ table.is_won (state_of t k calls a)
  pub over : (t : TaskId) (k : ℕ) (calls : List TaskCall) (a : Attempt)
      → is_over (seen t k calls).ended a ≡ (table.is_over (state_of t k calls a) && not (has (seen t k calls).accepted a))
  pub won : (t : TaskId) (k : ℕ) (calls : List TaskCall) (a : Attempt) → table.is_won (state_of t k calls a) ≡ true → launch_refusal (seen t k calls) ≡ Some AlreadyWon
  pub winner : (t : TaskId) (k : ℕ) (calls : List TaskCall) → winner t k calls ≡ succeeded (seen t k calls)
