-- What `threads` prints for a job text, and why it prints nothing (our own profile). Where the job succeeded it is what `seq` prints.
use Rattle.std.specs.Prelude.{◌≡◌, true, ℕ, List, Some, Ok, Err}
use Rattle.mr_world_model.specs.Results.{outcome}
use Rattle.mr_play.specs.mr_world.specs.Journal.{Journal, world_in}
use Rattle.mr_sim_commands.specs.declared.fault.SimFault.{SimFault}
use Rattle.mr_sim_commands.specs.declared.fault.SimFault.TheVariants.{NoMemory, Job, Full, JobFailed, TurnsSpent, JournalMismatch, Thread}
use Rattle.mr_sim_commands.specs.declared.job.submission.Submission.{Submission}
use Rattle.mr_sim_commands.specs.job.Text.{submission_of}
use Rattle.mr_sim_commands.specs.seq.Text.{PrintsSeq}
use Rattle.mr_play.specs.Text.{job_as}
use Rattle.mr_threads.specs.Runs.{IsRead, IsRun, plan_of}

-- ---- runs that succeeded, and that did not

-- a run of the job, as planned, in which success was told
pub record HasSucceeded (input : List ℕ) : Type 0 where
  pub job : Submission
  pub said : submission_of input ≡ Ok job
  pub run : Journal
  pub is : IsRun (job_as job.job) (plan_of job) run
  pub succeeded : outcome (world_in run) ≡ Some true

-- a success: the text that `seq` prints, and a run that succeeded
abbrev pub PrintsSuccess : List ℕ → List ℕ → Type 0
PrintsSuccess input text = PrintsSeq input text × HasSucceeded input

-- a run of the job, as planned, in which no success was told
pub record HasFailed (input : List ℕ) : Type 0 where
  pub job : Submission
  pub said : submission_of input ≡ Ok job
  pub run : Journal
  pub is : IsRun (job_as job.job) (plan_of job) run
  pub failed : outcome (world_in run) ≡ Some true → ⊥

-- ---- why nothing is printed

-- The first bad key of the job text is told, else why there is no run to be shown. Then turns are spent, the seats do
-- not account for the journal or an event was not planned, a thread can't be made or a limit is passed. An allocation failure may come at any
-- input.
abbrev pub ShownFails : List ℕ → SimFault → Type 0
ShownFails input NoMemory = Unit {0}
ShownFails input (Job e) = submission_of input ≡ Err e
ShownFails input Full = IsRead input
ShownFails input TurnsSpent = IsRead input
ShownFails input JournalMismatch = IsRead input
ShownFails input Thread = IsRead input
ShownFails input _ = ⊥

-- the same where only a success is printed
abbrev pub ThreadsFail : List ℕ → SimFault → Type 0
ThreadsFail input JobFailed = HasFailed input
ThreadsFail input e = ShownFails input e
