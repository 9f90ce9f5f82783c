-- Which attempt a record tells to have won, and how the winners of a job's reduces are noted.
use Rattle.std.specs.Prelude.{◌≡◌, ℕ, Bool, true, false, nat_eq, List, map, Option, Some, None, if◌then◌else◌}
use Rattle.std.specs.List.{range_with_len}
use Rattle.std.specs.Option.{option_or}
use Rattle.mr_ids.specs.Attempt.{Attempt}
use Rattle.mr_ids.specs.Same.{same_task}
use Rattle.mr_ids.specs.declared.id.JobId.{JobId}
use Rattle.mr_ids.specs.declared.id.TaskId.{TaskId}
use Rattle.mr_history.specs.declared.record.Record.{Record}
use Rattle.mr_history.specs.declared.record.Record.TheVariants.{ReduceSucceeded}
use Rattle.mr_world_model.specs.Ids.{reduce_of}

-- the attempt, if it is one at the task
abbrev pub if_at : Attempt → TaskId → Option Attempt
if_at a t = if same_task a.task t then Some a else None

-- the attempt, where a success of the reduce is told
abbrev pub success_of : Record → TaskId → Option Attempt
success_of (ReduceSucceeded a bytes) t = if_at a t
success_of _ t = None

-- ---- notes of a job's reduces, by number: the first attempt that was noted of each

-- there is such a reduce, of which nothing is noted
abbrev pub is_free : Option (Option Attempt) → Bool
is_free (Some None) = true
is_free _ = false

-- what is noted of reduce r, once the attempt is of reduce i
abbrev pub with_one : (ℕ → Option Attempt) → ℕ → Attempt → ℕ → Option Attempt
with_one g i a r = option_or (g r) (if nat_eq r i then Some a else None)

-- what is noted of it, once the entry is
abbrev pub with_entry : (ℕ → Option Attempt) → JobId → Record → ℕ → Option Attempt
with_entry g job entry r = option_or (g r) (success_of entry (reduce_of job r))

-- the attempt is noted of reduce i
abbrev pub NotesAt : ℕ → Attempt → List (Option Attempt) → List (Option Attempt) → Type 0
NotesAt i a old new = (g : ℕ → Option Attempt) (n : ℕ) → old ≡ map g (range_with_len 0 n) → new ≡ map (with_one g i a) (range_with_len 0 n)

-- the entry is noted
abbrev pub Notes : JobId → Record → List (Option Attempt) → List (Option Attempt) → Type 0
Notes job entry old new = (g : ℕ → Option Attempt) (n : ℕ) → old ≡ map g (range_with_len 0 n) → new ≡ map (with_entry g job entry) (range_with_len 0 n)
