-- What each order decides from a front of the log. Our own, but where a line says whose it is.
use Rattle.std.specs.Prelude.{ℕ, zero, suc, nat_lt, Bool, true, false, not, ◌&&◌, List, [], ◌∷◌, ◌++◌, length, take, map, filter, Option, Some, None, if◌then◌else◌}
use Rattle.std.specs.List.{list_any, flat_map}
use Rattle.mr_ids.specs.Attempt.{Attempt}
use Rattle.mr_log_entries.specs.declared.line.Line.{Line}
use Rattle.mr_log_entries.specs.declared.line.Line.TheVariants as line
use Rattle.mr_log_entries.specs.declared.entry.Entry.{Entry}
use Rattle.mr_log_entries.specs.Recorded.{lines_of}
use Rattle.mr_log_standing.specs.declared.job.Job.{Job}
use Rattle.mr_log_standing.specs.declared.order.Order.{Order}
use Rattle.mr_log_standing.specs.declared.order.Order.TheVariants as order
use Rattle.mr_log_standing.specs.declared.order.Outcome.{Outcome}
use Rattle.mr_log_standing.specs.declared.order.Outcome.TheVariants as outcome
use Rattle.mr_log_standing.specs.declared.decision.Decision.{Decision}
use Rattle.mr_log_standing.specs.declared.decision.Decision.TheVariants.{Ends, Publishes, HandsIn, Puts, Begins, Forgets}
use Rattle.mr_log_standing.specs.declared.decision.Conclusion.{Conclusion}
use Rattle.mr_log_standing.specs.declared.decision.Conclusion.TheVariants.{Succeeded, Failed, Interrupted}
use Rattle.mr_log_standing.specs.Host.{Host}
use Rattle.mr_log_standing.specs.Standing.{task_of, has_winner, failures, is_over, is_released, is_published, those_below, has_won_all, is_publishable, may_end, standing, is_under_way, under_way, next_attempt, begun_in, is_this, is_cut_off}

-- An entry has at most 36 lines (and an end of the job): their longest texts fit in 1,000 bytes.
abbrev pub in_one_entry : (A : Type 0) → List A → List A
in_one_entry A xs = take 36 xs

-- It ends so. What there is to publish is published first: the committer document's commit of a job.
abbrev pub ends : Job → List Line → Outcome → Decision
ends job ls o = if is_publishable job ls && not (is_published ls) then Publishes o else Ends o

-- ---- failures

-- a task of these attempts has failed as often as the limit
abbrev pub reaches : Option ℕ → List Line → List Attempt → Bool
reaches None ls failed = false
reaches (Some limit) ls failed = list_any (λ a. not (nat_lt (failures ls a.task) limit)) failed

-- the job ends with these failures, where they reach the limit
abbrev pub with_end : Job → List Line → List Attempt → List Line → List Line
with_end job ls failed more = if reaches job.limit (ls ++ more) failed then more ++ line.Unsuccessful ∷ [] else more

abbrev pub failing : Job → List Line → List Attempt → List Line
failing job ls failed = with_end job ls failed (map line.Failed failed)

-- these fail, if there is one
abbrev pub fails : Job → List Line → List Attempt → Decision
fails job ls [] = ends job ls outcome.Finished
fails job ls (a ∷ more) = Puts (failing job ls (a ∷ more))

-- the attempts that are under way at the first n tasks
unfoldable pub under_way_below : Job → List Line → ℕ → List Attempt
under_way_below job ls zero = []
under_way_below job ls (suc n) = under_way_below job ls n ++ under_way job ls (task_of job.id n)

-- ---- beginnings

-- those under way at a task that were begun in a boot of this host that has ended
abbrev pub cut_off : Job → Host → List Entry → ℕ → List Attempt
cut_off job host es n = filter (λ a. is_cut_off host es a) (under_way job (lines_of es) (task_of job.id n))

-- the others
abbrev pub alive : Job → Host → List Entry → ℕ → List Attempt
alive job host es n = filter (λ a. not (is_cut_off host es a)) (under_way job (lines_of es) (task_of job.id n))

abbrev pub is_none : List Attempt → Bool
is_none [] = true
is_none (a ∷ more) = false

-- a task without a winner, at which nobody is under way
abbrev pub is_idle : Job → Host → List Entry → ℕ → Bool
is_idle job host es n = not (has_winner (lines_of es) (task_of job.id n)) && is_none (alive job host es n)

unfoldable pub idle : Job → Host → List Entry → List ℕ
idle job host es = those_below (is_idle job host es) job.tasks

abbrev pub started : Option Attempt → List Line
started None = []
started (Some a) = line.Started a ∷ []

-- an attempt at the task is begun, if it has room for one; who was cut off there is noted so
abbrev pub beginning : Job → Host → List Entry → ℕ → List Line
beginning job host es n = map line.Interrupted (cut_off job host es n) ++ started (next_attempt (lines_of es) (task_of job.id n))

-- those lines, then this attempt is begun
abbrev pub then_begins : List Line → Option Attempt → Decision
then_begins before None = Ends outcome.Full
then_begins before (Some a) = Begins (before ++ line.Started a ∷ [])

abbrev pub begins : Job → Host → List Entry → ℕ → Decision
begins job host es n = then_begins (map line.Interrupted (cut_off job host es n)) (next_attempt (lines_of es) (task_of job.id n))

-- nothing is idle
abbrev pub settles : Job → List Line → Decision
settles job ls = if has_won_all job ls then ends job ls outcome.AllWon else Ends outcome.Busy

abbrev pub begins_first : Job → Host → List Entry → List ℕ → Decision
begins_first job host es [] = settles job (lines_of es)
begins_first job host es (n ∷ more) = begins job host es n

-- as many as one entry holds
abbrev pub begins_those : List Line → Decision
begins_those [] = Ends outcome.Full
begins_those (l ∷ more) = Begins (in_one_entry Line (l ∷ more))

abbrev pub begins_all : Job → Host → List Entry → List ℕ → Decision
begins_all job host es [] = settles job (lines_of es)
begins_all job host es (n ∷ more) = begins_those (flat_map (beginning job host es) (n ∷ more))

-- an order about one task, which has no winner yet
abbrev pub at_task : Job → List Line → ℕ → Decision → Decision
at_task job ls n d =
    if not (nat_lt n job.tasks) then Ends outcome.NoTask
    else if is_over ls then Ends outcome.JobOver
    else if has_winner ls (task_of job.id n) then ends job ls outcome.AllWon else d

-- next to one that is alive at most
abbrev pub begins_next_to : Job → Host → List Entry → ℕ → Decision
begins_next_to job host es n = if nat_lt (length (alive job host es n)) 2 then begins job host es n else Ends outcome.Busy

abbrev pub given_up : Job → Host → List Entry → ℕ → List Line
given_up job host es n = map line.Interrupted (cut_off job host es n) ++ map line.Failed (alive job host es n)

-- in place of those that are alive; their failures may end the job
abbrev pub begins_over : Job → Host → List Entry → ℕ → Decision
begins_over job host es n =
    if reaches job.limit (lines_of es ++ given_up job host es n) (alive job host es n)
    then Puts (given_up job host es n ++ line.Unsuccessful ∷ [])
    else then_begins (given_up job host es n) (next_attempt (lines_of es) (task_of job.id n))

-- ---- all orders

-- an attempt is handed in in the boot in which it was begun: of another boot's writes some may be lost
abbrev pub hands_in : Job → Host → List Entry → Attempt → Decision
hands_in job host es a = if is_this host (begun_in es a) then HandsIn a else Ends outcome.OtherBoot

-- an order about an attempt that is under way; of another it says how that stands
abbrev pub of_attempt : Job → List Line → Attempt → Decision → Decision
of_attempt job ls a d = if is_under_way (standing job ls a) then d else ends job ls (outcome.Stands (standing job ls a))

abbrev pub fails_task : Job → List Line → ℕ → Decision
fails_task job ls n =
    if nat_lt n job.tasks then fails job ls (in_one_entry Attempt (under_way job ls (task_of job.id n))) else Ends outcome.NoTask

abbrev pub aborts : Job → List Line → Decision
aborts job ls =
    if is_over ls then Ends outcome.Finished
    else if may_end job ls then Puts (line.Unsuccessful ∷ []) else ends job ls outcome.AllWon

abbrev pub releases_job : Job → List Line → Decision
releases_job job ls =
    if is_over ls then Ends outcome.JobOver
    else if not (has_won_all job ls) then Ends outcome.NotAllWon
    else if job.hold && not (is_released ls) then Puts (line.Publish ∷ []) else ends job ls outcome.Finished

abbrev pub forgets : Job → List Line → Decision
forgets job ls = if is_published ls then Forgets else ends job ls outcome.Unpublished

unfoldable pub decided : Order → Job → Host → List Entry → Decision
decided (order.Done a) job host es = of_attempt job (lines_of es) a (hands_in job host es a)
decided (order.Fail a) job host es = of_attempt job (lines_of es) a (Puts (failing job (lines_of es) (a ∷ [])))
decided (order.FailTask n) job host es = fails_task job (lines_of es) n
decided order.FailAll job host es = fails job (lines_of es) (in_one_entry Attempt (under_way_below job (lines_of es) job.tasks))
decided (order.Ask a) job host es = Ends (outcome.Stands (standing job (lines_of es) a))
decided order.Resume job host es = ends job (lines_of es) outcome.Finished
decided order.Abort job host es = aborts job (lines_of es)
decided order.Publish job host es = releases_job job (lines_of es)
decided order.Forget job host es = forgets job (lines_of es)
decided order.StartNext job host es = if is_over (lines_of es) then Ends outcome.JobOver else begins_first job host es (idle job host es)
decided order.StartAll job host es = if is_over (lines_of es) then Ends outcome.JobOver else begins_all job host es (idle job host es)
decided (order.StartAt n) job host es = at_task job (lines_of es) n (begins_next_to job host es n)
decided (order.StartOver n) job host es = at_task job (lines_of es) n (begins_over job host es n)

-- ---- the end of handing in

abbrev pub conclusion : Job → List Line → Attempt → Conclusion → List Line
conclusion job ls a (Succeeded handed) = line.Won a handed ∷ []
conclusion job ls a Failed = failing job ls (a ∷ [])
conclusion job ls a Interrupted = line.Interrupted a ∷ []

-- what handing an attempt in came to is put where the attempt is still under way
unfoldable pub concluded : Conclusion → Attempt → Job → List Entry → Decision
concluded c a job es = of_attempt job (lines_of es) a (Puts (conclusion job (lines_of es) a c))

-- the lines that a decision puts
abbrev pub lines_put : Decision → List Line
lines_put (Puts ls) = ls
lines_put (Begins ls) = ls
lines_put _ = []
