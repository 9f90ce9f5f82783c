-- What each call changes of what was heard before it: who is over, who is accepted, who is live. For the layers above.
-- Our own: it follows from Readings.
use Rattle.std.specs.Prelude.{◌≡◌, ℕ, Bool, true, false, ◌&&◌, ◌||◌, not, List, [], ◌∷◌, ◌++◌, filter, count_by, Option, Some, None, is_some, if◌then◌else◌}
use Rattle.mr_ids.specs.Attempt.{Attempt}
use Rattle.mr_ids.specs.declared.id.TaskId.{TaskId}
use Rattle.mr_ids.specs.declared.id.TaskKind.TheVariants.{Reduce}
use Rattle.mr_grant.specs.Attempts.{same_attempt, has, first_of}
use Rattle.mr_task.specs.Calls.{TaskCall, Fails, Ends, Dies, Reports, Recovers}
use Rattle.mr_task.specs.Readings.{Ending, Seen, seen, is_over, is_live, live, is_won, failures, may_accept, may_recover}

-- the ending that a call tells of
abbrev pub ending_by : TaskCall → Option Ending
ending_by (Fails a) = Some (record { attempt = a; is_failure = true })
ending_by (Ends a was_asked) = Some (record { attempt = a; is_failure = not was_asked })
ending_by (Dies a) = Some (record { attempt = a; is_failure = false })
ending_by _ = None

-- it counts where the attempt is live
abbrev pub new_endings : Seen → Option Ending → List Ending
new_endings s None = []
new_endings s (Some e) = if is_live s e.attempt then e ∷ [] else []

-- whether a call makes attempt a accepted: its Done, where it may be accepted, or its recovery
abbrev pub accepts : TaskId → Seen → TaskCall → Attempt → Bool
accepts t s (Reports b) a = same_attempt a b && may_accept s b
accepts t s (Recovers b) a = same_attempt a b && may_recover t s b
accepts t s _ a = false

-- An attempt is over only by a call that tells of its end while it is live; it is accepted only by its Done or its recovery. The
-- failures are the endings that are failures.
pub record CallsChange : Type 0 where
  pub ended : (t : TaskId) (k : ℕ) (calls : List TaskCall) (call : TaskCall)
      → (seen t k (call ∷ calls)).ended ≡ new_endings (seen t k calls) (ending_by call) ++ (seen t k calls).ended
  pub over : (t : TaskId) (k : ℕ) (calls : List TaskCall) (call : TaskCall) (a : Attempt)
      → is_over (seen t k (call ∷ calls)).ended a ≡ (is_over (new_endings (seen t k calls) (ending_by call)) a || is_over (seen t k calls).ended a)
  pub accepted : (t : TaskId) (k : ℕ) (calls : List TaskCall) (call : TaskCall) (a : Attempt)
      → has (seen t k (call ∷ calls)).accepted a ≡ (accepts t (seen t k calls) call a || has (seen t k calls).accepted a)
  pub failures : (t : TaskId) (k : ℕ) (calls : List TaskCall) → failures (seen t k calls) ≡ count_by (λ (e : Ending). e.is_failure) (seen t k calls).ended

-- A call that tells of an end changes nothing but who is over: the others that were live still are, in their order, and whether
-- the task is won stays.
pub record EndsChange (t : TaskId) (k : ℕ) (calls : List TaskCall) (call : TaskCall) (e : Ending) : Type 0 where
  pub only : seen t k (call ∷ calls) ≡ record (seen t k calls) { ended = (seen t k (call ∷ calls)).ended }
  pub live : live (seen t k (call ∷ calls)) ≡ filter (λ a. not (same_attempt e.attempt a)) (live (seen t k calls))
  pub won : is_won (seen t k (call ∷ calls)) ≡ is_won (seen t k calls)

abbrev pub EndsChangeOnlyThat : Type 0
EndsChangeOnlyThat = (t : TaskId) (k : ℕ) (calls : List TaskCall) (call : TaskCall) (e : Ending) → ending_by call ≡ Some e → EndsChange t k calls call e

-- The output of a reduce is never lost, so a reduce is won exactly where an attempt is accepted.
pub record ReducesAreKept : Type 0 where
  pub none_lost : (t : TaskId) (k : ℕ) (calls : List TaskCall) → t.kind ≡ Reduce → (seen t k calls).lost ≡ []
  pub won : (t : TaskId) (k : ℕ) (calls : List TaskCall) → t.kind ≡ Reduce → is_won (seen t k calls) ≡ is_some (first_of (seen t k calls).accepted)
