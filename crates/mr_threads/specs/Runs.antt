-- A run that threads made of a job: a list of events that came to its end, whatever the schedule was (our own profile).
use Rattle.std.specs.Prelude.{◌≡◌, true, ℕ, List, length, map, Some, Ok}
use Rattle.mr_world_model.specs.Claims.{IsMarked}
use Rattle.mr_world_model.specs.Results.{outcome, visible}
use Rattle.mr_world_model.specs.Sequential.{Job, IsFaithful}
use Rattle.mr_world_files.specs.Shown.{ShowsSequential}
use Rattle.mr_play.specs.mr_world.specs.Journal.{Journal, world_in}
use Rattle.mr_play.specs.mr_world.specs.Limits.{within}
use Rattle.mr_play.specs.mr_world.specs.VisibleFiles.{as_pair}
use Rattle.mr_drive.specs.mr_board_report.specs.Following.{Follows}
use Rattle.mr_drive.specs.mr_board_report.specs.Reports.{IsThrough}
use Rattle.mr_drive.specs.mr_board_report.specs.declared.plan.Plan.{Plan}
use Rattle.mr_drive.specs.mr_board_report.specs.declared.report.Report.{Report}
use Rattle.mr_sim_commands.specs.declared.job.submission.Submission.{Submission}
use Rattle.mr_sim_commands.specs.job.Text.{submission_of}
use Rattle.mr_play.specs.Text.{job_as, config_of}

-- what is planned for the job of a job text
abbrev pub plan_of : Submission → Plan
plan_of job = record { config = config_of job; faults = job.faults }

-- a run of a job as planned: each result in it is what the job's functions give, and an outcome was told or the newest master is Stopped
pub record IsRun (job : Job) (plan : Plan) (j : Journal) : Type 0 where
  pub config_is : j.config ≡ plan.config
  -- until its end each fault of the plan was made as soon as it was due, or the world refused it; behind a crash the next master starts; all else is calm
  pub follows : Follows plan j
  pub faithful : IsFaithful job j.config (within j.config) j.events
  pub through : IsThrough j
  -- where the success marker is, a reader sees the files of the sequential execution, and nothing else
  pub marked : IsMarked (world_in j) → ShowsSequential job j.config (world_in j)

-- a report of a run: its files are what a reader sees. It succeeded exactly where success was told, and then with the
-- files of the sequential execution
pub record IsReportOf (job : Job) (plan : Plan) (r : Report) : Type 0 where
  pub run : IsRun job plan r.world
  -- each event has its seat's number
  pub noted : length r.by.items ≡ length r.world.events
  pub told : r.succeeded ≡ true → outcome (world_in r.world) ≡ Some true
  pub tells : outcome (world_in r.world) ≡ Some true → r.succeeded ≡ true
  pub seen : map as_pair r.files.items ≡ visible (world_in r.world)
  pub sequential : r.succeeded ≡ true → ShowsSequential job r.world.config (world_in r.world)

-- the job text says a job
pub record IsRead (input : List ℕ) : Type 0 where
  pub job : Submission
  pub said : submission_of input ≡ Ok job

-- a report of a run of the job that the job text says
pub record Reports (input : List ℕ) (r : Report) : Type 0 where
  pub job : Submission
  pub said : submission_of input ≡ Ok job
  pub is : IsReportOf (job_as job.job) (plan_of job) r
