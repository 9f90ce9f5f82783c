-- How attempts, tasks and the job stand by the lines of a log. That the first recorded success of a task decides is Dean and Ghemawat's "one execution of
-- a reduce task" (3.3), in our own profile; so is that an attempt that was given up never wins.
use Rattle.std.specs.Prelude.{ℕ, zero, suc, ◌==◌, nat_lt, Bool, true, false, not, ◌&&◌, ◌||◌, count_by, is_some, List, [], ◌∷◌, ◌++◌, filter, Option, Some, None, if◌then◌else◌}
use Rattle.std.specs.List.{list_any, filter_map}
use Rattle.mr_ids.specs.Attempt.{Attempt}
use Rattle.mr_ids.specs.Same.{same_attempt, same_task}
use Rattle.mr_ids.specs.declared.id.JobId.{JobId}
use Rattle.mr_ids.specs.declared.id.TaskId.{TaskId}
use Rattle.mr_ids.specs.declared.id.TaskKind.TheVariants.{Reduce}
use Rattle.mr_log_entries.specs.declared.line.Line.{Line}
use Rattle.mr_log_entries.specs.declared.line.Line.TheVariants.{Started, Won, Failed, Interrupted, Unsuccessful, Publish, Published}
use Rattle.mr_log_entries.specs.declared.entry.Entry.{Entry}
use Rattle.mr_log_standing.specs.declared.job.Job.{Job}
use Rattle.mr_log_standing.specs.declared.standing.Win.{Win}
use Rattle.mr_log_standing.specs.declared.standing.Standing.{Standing}
use Rattle.mr_log_standing.specs.declared.standing.Standing.TheVariants as stands
use Rattle.mr_log_standing.specs.Host.{Host}

-- the task of a job with this number
abbrev pub task_of : JobId → ℕ → TaskId
task_of job n = record { job = job; kind = Reduce; number = n }

-- the attempt is at one of the job's tasks
abbrev pub is_of_job : Job → Attempt → Bool
is_of_job job a = same_task a.task (task_of job.id a.task.number) && nat_lt a.task.number job.tasks

-- ---- what one line records

abbrev pub is_start_of : Attempt → Line → Bool
is_start_of a (Started b) = same_attempt a b
is_start_of a _ = false

-- the attempt can't win any more: it failed, or was cut off
abbrev pub gives_up : Attempt → Line → Bool
gives_up a (Failed b) = same_attempt a b
gives_up a (Interrupted b) = same_attempt a b
gives_up a _ = false

-- a failure of the task, which counts for the limit
abbrev pub is_failure_at : TaskId → Line → Bool
is_failure_at t (Failed a) = same_task a.task t
is_failure_at t _ = false

-- the attempt that was started at the task
abbrev pub start_at : TaskId → Line → Option Attempt
start_at t (Started a) = if same_task a.task t then Some a else None
start_at t _ = None

-- the attempt that succeeded at the task
abbrev pub success_at : TaskId → Line → Option Attempt
success_at t (Won a handed) = if same_task a.task t then Some a else None
success_at t _ = None

abbrev pub ends_job : Line → Bool
ends_job Unsuccessful = true
ends_job _ = false

abbrev pub releases : Line → Bool
releases Publish = true
releases _ = false

abbrev pub is_publication : Line → Bool
is_publication Published = true
is_publication _ = false

-- ---- tasks

-- the first of two, where it is there
abbrev pub first_or : (A : Type 0) → Option A → Option A → Option A
first_or A (Some a) other = Some a
first_or A None other = other

-- the winner of a task: the attempt of its first success
unfoldable pub winner_of : List Line → TaskId → Option Attempt
winner_of [] t = None
winner_of (l ∷ ls) t = first_or Attempt (success_at t l) (winner_of ls t)

abbrev pub has_winner : List Line → TaskId → Bool
has_winner ls t = is_some (winner_of ls t)

-- the attempts that were started at a task, in their order
abbrev pub started_at : List Line → TaskId → List Attempt
started_at ls t = filter_map (start_at t) ls

-- how often a task has failed. That so many failures of one task end the job is Hadoop's (mapreduce.reduce.maxattempts)
abbrev pub failures : List Line → TaskId → ℕ
failures ls t = count_by (is_failure_at t) ls

-- ---- the job

-- it was ended as failed
abbrev pub is_over : List Line → Bool
is_over ls = list_any ends_job ls

-- that a held job is to be published was decided
abbrev pub is_released : List Line → Bool
is_released ls = list_any releases ls

-- it is published for good
abbrev pub is_published : List Line → Bool
is_published ls = list_any is_publication ls

-- those of the first n numbers that pass, in order
unfoldable pub those_below : (ℕ → Bool) → ℕ → List ℕ
those_below p zero = []
those_below p (suc n) = those_below p n ++ (if p n then n ∷ [] else [])

abbrev pub is_left : Job → List Line → ℕ → Bool
is_left job ls n = not (has_winner ls (task_of job.id n))

-- the numbers of the tasks that have no winner
unfoldable pub left : Job → List Line → List ℕ
left job ls = those_below (is_left job ls) job.tasks

abbrev pub is_none_of : (A : Type 0) → List A → Bool
is_none_of A [] = true
is_none_of A (x ∷ xs) = false

-- each task has a winner
abbrev pub has_won_all : Job → List Line → Bool
has_won_all job ls = is_none_of ℕ (left job ls)

-- it may be published. That a job is committed once all its tasks have is the committer document's; that a failed one never is, too
abbrev pub is_publishable : Job → List Line → Bool
is_publishable job ls = has_won_all job ls && (not (is_over ls) && (not job.hold || is_released ls))

-- it may be ended as failed: only while it can't be published by what anybody reads
abbrev pub may_end : Job → List Line → Bool
may_end job ls = not (has_won_all job ls) || (job.hold && not (is_released ls))

-- ---- attempts

-- an attempt at a task that nobody has won yet
abbrev pub unwon : List Line → Attempt → Standing
unwon ls a =
    if list_any (gives_up a) ls then stands.GivenUp
    else if is_over ls then stands.JobOver
    else if list_any (is_start_of a) ls then stands.UnderWay else stands.Unknown

abbrev pub against : Option Attempt → Attempt → Standing → Standing
against None a otherwise = otherwise
against (Some winner) a otherwise = if same_attempt winner a then stands.Won else stands.Beaten

-- how an attempt stands: its task's winner comes first, then whether it was given up, then whether the job is over
unfoldable pub standing : Job → List Line → Attempt → Standing
standing job ls a = if is_of_job job a then against (winner_of ls a.task) a (unwon ls a) else stands.Unknown

abbrev pub is_under_way : Standing → Bool
is_under_way stands.UnderWay = true
is_under_way _ = false

-- the attempts at a task that are under way
abbrev pub under_way : Job → List Line → TaskId → List Attempt
under_way job ls t = filter (λ a. is_under_way (standing job ls a)) (started_at ls t)

abbrev pub is_nobody : List Attempt → Bool
is_nobody [] = true
is_nobody (a ∷ more) = false

abbrev pub is_run : Job → List Line → ℕ → Bool
is_run job ls n = not (is_nobody (under_way job ls (task_of job.id n)))

-- the numbers of the tasks at which an attempt is under way
unfoldable pub run : Job → List Line → List ℕ
run job ls = those_below (is_run job ls) job.tasks

-- The attempt at a task that comes next, where there is room for one. Their numbers, from 0, are those of Hadoop's attempts at a task; that there are
-- at most as many as there are numbers is our own.
abbrev pub numbered : TaskId → ℕ → Option Attempt
numbered t n = if nat_lt n 1000000 then Some (record { task = t; number = n }) else None

abbrev pub is_start_at : TaskId → Line → Bool
is_start_at t l = is_some (start_at t l)

unfoldable pub next_attempt : List Line → TaskId → Option Attempt
next_attempt ls t = numbered t (count_by (is_start_at t) ls)

-- ---- by the entries, which tell where their lines came from

-- the boot in which the attempt was begun
unfoldable pub begun_in : List Entry → Attempt → Option ℕ
begun_in [] a = None
begun_in (e ∷ es) a = if list_any (is_start_of a) e.lines then Some e.origin.boot else begun_in es a

abbrev pub is_this : Host → Option ℕ → Bool
is_this host None = false
is_this host (Some boot) = host.boot == boot

abbrev pub is_earlier : Host → Option ℕ → Bool
is_earlier host None = false
is_earlier host (Some boot) = list_any (λ b. b == boot) host.earlier

-- the attempt was begun in a boot of this host that has ended: what it wrote may be lost, and nobody is at it
abbrev pub is_cut_off : Host → List Entry → Attempt → Bool
is_cut_off host es a = is_earlier host (begun_in es a)

-- the winner among the lines of an entry with this id, and what it handed in
abbrev pub win_by : ℕ → TaskId → Line → Option Win
win_by id t (Won a handed) = if same_task a.task t then Some (record { attempt = a; handed = handed; id = id }) else None
win_by id t _ = None

unfoldable pub win_among : ℕ → List Line → TaskId → Option Win
win_among id [] t = None
win_among id (l ∷ ls) t = first_or Win (win_by id t l) (win_among id ls t)

-- the winner of a task, and what it handed in
unfoldable pub win_of : List Entry → TaskId → Option Win
win_of [] t = None
win_of (e ∷ es) t = first_or Win (win_among e.origin.id e.lines t) (win_of es t)
