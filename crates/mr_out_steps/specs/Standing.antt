-- What the records of a job's history tell of an attempt, and of the whole job. That the first record of a success decides is Dean and
-- Ghemawat's "one execution of a reduce task" (3.3), in our own profile; so is that an attempt that was given up never wins.
use Rattle.std.specs.Prelude.{ℕ, zero, suc, ◌==◌, nat_lt, Bool, true, false, not, ◌&&◌, count_by, is_some, List, [], ◌∷◌, Option, Some, None, if◌then◌else◌}
use Rattle.std.specs.List.{list_any}
use Rattle.mr_ids.specs.Attempt.{Attempt}
use Rattle.mr_ids.specs.Same.{same_attempt, same_task}
use Rattle.mr_ids.specs.declared.id.JobId.{JobId}
use Rattle.mr_ids.specs.declared.id.TaskId.{TaskId}
use Rattle.mr_ids.specs.declared.id.TaskKind.TheVariants.{Reduce}
use Rattle.mr_history.specs.declared.record.Record.{Record}
use Rattle.mr_history.specs.declared.record.Record.TheVariants.{AttemptStarted, MapSucceeded, ReduceSucceeded, AttemptFailed, JobUnsuccessful}
use Rattle.mr_history.specs.Winner.{winner_in}
use Rattle.mr_out_steps.specs.declared.standing.Standing.{Standing}
use Rattle.mr_out_steps.specs.declared.standing.Standing.TheVariants.{Won, Beaten, GivenUp, JobOver, UnderWay, Unknown}

-- the task of a job with this number
abbrev pub task_of : JobId → ℕ → TaskId
task_of job n = record { job = job; kind = Reduce; number = n }

-- the attempt is at one of the job's tasks
abbrev pub is_of_job : JobId → ℕ → Attempt → Bool
is_of_job job tasks a = same_task a.task (task_of job a.task.number) && nat_lt a.task.number tasks

abbrev pub tells_start : Attempt → Record → Bool
tells_start a (AttemptStarted b node) = same_attempt a b
tells_start a _ = false

abbrev pub tells_failure : Attempt → Record → Bool
tells_failure a (AttemptFailed b) = same_attempt a b
tells_failure a _ = false

abbrev pub tells_end : Record → Bool
tells_end JobUnsuccessful = true
tells_end _ = false

-- the job was ended as failed
abbrev pub is_over : List Record → Bool
is_over rs = list_any tells_end rs

-- an attempt at a task that nobody has won yet
abbrev pub unwon : JobId → ℕ → List Record → Attempt → Standing
unwon job tasks rs a =
    if list_any (tells_failure a) rs then GivenUp
    else if is_over rs then JobOver
    else if is_of_job job tasks a && list_any (tells_start a) rs then UnderWay else Unknown

abbrev pub beside : Option Attempt → Attempt → Standing → Standing
beside None a otherwise = otherwise
beside (Some winner) a otherwise = if same_attempt winner a then Won else Beaten

-- how an attempt stands: its task's winner comes first, then whether it was given up, then whether the job is over
unfoldable pub standing : JobId → ℕ → List Record → Attempt → Standing
standing job tasks rs a = beside (winner_in rs a.task) a (unwon job tasks rs a)

-- a winner before the others, where there is one and they are
abbrev pub with_winner : Option Attempt → Option (List Attempt) → Option (List Attempt)
with_winner None others = None
with_winner (Some a) None = None
with_winner (Some a) (Some others) = Some (a ∷ others)

-- the winners of the first n tasks, the last task's first, where each has one
unfoldable pub winners : JobId → List Record → ℕ → Option (List Attempt)
winners job rs zero = Some []
winners job rs (suc n) = with_winner (winner_in rs (task_of job n)) (winners job rs n)

-- ---- attempts at a task. Their numbers, from 0, are those of Hadoop's attempts at a task; how many there may be is our own

abbrev pub starts_at : TaskId → Record → Bool
starts_at t (AttemptStarted a node) = same_task a.task t
starts_at t _ = false

abbrev pub tells_any_start : Record → Bool
tells_any_start (AttemptStarted a node) = true
tells_any_start _ = false

-- a job has at most 50,000 attempts; a task at most as many as there are numbers
abbrev pub has_room : List Record → TaskId → Bool
has_room rs t = nat_lt (count_by tells_any_start rs) 50000 && nat_lt (count_by (starts_at t) rs) 1000000

-- the attempt at the task that comes next, where there is room for one
unfoldable pub next_attempt : List Record → TaskId → Option Attempt
next_attempt rs t = if has_room rs t then Some (record { task = t; number = count_by (starts_at t) rs }) else None

-- the record tells that an attempt at the task was started, which has not failed
abbrev pub is_alive_at : List Record → TaskId → Record → Bool
is_alive_at rs t (AttemptStarted a node) = same_task a.task t && not (list_any (tells_failure a) rs)
is_alive_at rs t _ = false

-- the first of those attempts
unfoldable pub first_alive : List Record → TaskId → List Record → Option Attempt
first_alive rs t [] = None
first_alive rs t (AttemptStarted a node ∷ qs) = if is_alive_at rs t (AttemptStarted a node) then Some a else first_alive rs t qs
first_alive rs t (q ∷ qs) = first_alive rs t qs

abbrev pub has_winner : List Record → TaskId → Bool
has_winner rs t = is_some (winner_in rs t)

-- the task has no winner, and no attempt at it is under way
abbrev pub is_idle : List Record → TaskId → Bool
is_idle rs t = not (has_winner rs t) && not (list_any (is_alive_at rs t) rs)

abbrev pub or_idle : JobId → List Record → ℕ → Option ℕ → Option ℕ
or_idle job rs n (Some first) = Some first
or_idle job rs n None = if is_idle rs (task_of job n) then Some n else None

-- the first of the first n tasks that is idle
unfoldable pub first_idle : JobId → List Record → ℕ → Option ℕ
first_idle job rs zero = None
first_idle job rs (suc n) = or_idle job rs n (first_idle job rs n)

-- ---- how often a task has failed. That so many failures of one task end the job is Hadoop's (mapreduce.reduce.maxattempts)

abbrev pub fails_at : TaskId → Record → Bool
fails_at t (AttemptFailed a) = same_task a.task t
fails_at t _ = false

-- the record tells a failure of a task that has failed so often
abbrev pub fails_out : ℕ → List Record → Record → Bool
fails_out limit rs (AttemptFailed a) = not (nat_lt (count_by (fails_at a.task) rs) limit)
fails_out limit rs _ = false

-- some task has failed as often as the limit
abbrev pub has_failed_out : Option ℕ → List Record → Bool
has_failed_out None rs = false
has_failed_out (Some limit) rs = list_any (fails_out limit rs) rs
