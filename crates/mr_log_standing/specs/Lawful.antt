-- Which lines may follow a front of the log, whoever puts them. Our own.
use Rattle.std.specs.Prelude.{Bool, true, false, not, ◌&&◌, List, [], ◌∷◌, ◌++◌, Option, Some, None}
use Rattle.mr_ids.specs.Attempt.{Attempt}
use Rattle.mr_ids.specs.Same.{same_attempt}
use Rattle.mr_log_entries.specs.declared.line.Line.{Line}
use Rattle.mr_log_entries.specs.declared.line.Line.TheVariants.{Started, Won, Failed, Interrupted, Unsuccessful, Publish, Published}
use Rattle.mr_log_standing.specs.declared.job.Job.{Job}
use Rattle.mr_log_standing.specs.Standing.{is_of_job, has_winner, is_over, has_won_all, is_publishable, may_end, standing, is_under_way, next_attempt}

abbrev pub is_that : Option Attempt → Attempt → Bool
is_that None a = false
is_that (Some b) a = same_attempt b a

abbrev pub is_lawful : Job → List Line → Line → Bool
-- the next attempt at its task, which nobody has won, of a job that is not over
is_lawful job ls (Started a) = is_of_job job a && (not (is_over ls) && (not (has_winner ls a.task) && is_that (next_attempt ls a.task) a))
is_lawful job ls (Won a handed) = is_under_way (standing job ls a)
-- at a task that nobody has won
is_lawful job ls (Failed a) = not (has_winner ls a.task)
is_lawful job ls (Interrupted a) = not (has_winner ls a.task)
-- while nobody can publish the job
is_lawful job ls Unsuccessful = may_end job ls
is_lawful job ls Publish = has_won_all job ls && not (is_over ls)
is_lawful job ls Published = is_publishable job ls

-- each of more lines is lawful where it stands
unfoldable pub are_lawful : Job → List Line → List Line → Bool
are_lawful job ls [] = true
are_lawful job ls (l ∷ more) = is_lawful job ls l && are_lawful job (ls ++ l ∷ []) more
