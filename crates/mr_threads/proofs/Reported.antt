-- What a report of threads promises of the job that a job text says.
use Rattle.std.proofs.Common.{◌≡◌, ℕ, List, Ok, ap₂, subst, sym}
use Rattle.mr_user.specs.Computation.{Computation}
use Rattle.mr_shuffle.specs.SequentialText.{AreSplits}
use Rattle.mr_world_files.specs.Jobs.{job_of, LawsOf}
use Rattle.mr_world_files.specs.Shown.{MarkedWorldsShowSequential}
use Rattle.mr_play.specs.mr_world.specs.Limits.{within}
use Rattle.mr_play.specs.mr_world.specs.Ranges.{IsInRange}
use Rattle.mr_play.specs.mr_world.proofs.Headlines.{outputs-are-bounded}
use Rattle.mr_drive.specs.mr_board_report.specs.Reports.{IsReported}
use Rattle.mr_drive.specs.mr_board_report.specs.declared.plan.Plan.{Plan}
use Rattle.mr_drive.specs.mr_board_report.specs.declared.report.Report.{Report}
use Rattle.mr_sim_commands.specs.declared.job.submission.JobKind.{JobKind}
use Rattle.mr_sim_commands.specs.declared.job.submission.Submission.{Submission}
use Rattle.mr_sim_commands.specs.job.Text.{submission_of}
use Rattle.mr_play.specs.Text.{job_as, config_of}
use Rattle.mr_threads.specs.Runs.{IsReportOf, Reports, plan_of}

pub is_report : {K V : Type 0} (job : Computation K V) (plan : Plan) (r : Report) → LawsOf job → MarkedWorldsShowSequential → IsInRange plan.config → AreSplits plan.config.splits →
    IsReported job plan r.succeeded r.files.items r.by.items r.world → IsReportOf (job_of job) plan r
is_report job plan r laws show range splits is = record {
  run = record {
    config_is = is.config_is;
    follows = is.follows;
    faithful = is.faithful;
    through = is.through;
    marked = λ m. show (job_of job) r.world.config (within r.world.config) (laws r.world.config (subst (λ c. AreSplits c.splits) (sym is.config_is) splits)) (outputs-are-bounded r.world.config)
        (subst (λ c. IsInRange c) (sym is.config_is) range).reduces.1 r.world.events is.faithful m;
  };
  noted = is.noted;
  told = is.told;
  tells = is.tells;
  seen = is.seen;
  sequential = is.sequential;
}

pub reports_of : (input : List ℕ) (job : Submission) (kind : JobKind) (plan : Plan) (r : Report) → submission_of input ≡ Ok job → kind ≡ job.job → plan.config ≡ config_of job → plan.faults ≡ job.faults → IsReportOf (job_as kind) plan r → Reports input r
reports_of input job kind plan r said k c f is = record {
  job = job;
  said = said;
  is = subst (λ x. IsReportOf (job_as x) (plan_of job) r) k (subst (λ x. IsReportOf (job_as kind) x r) (let e : plan ≡ plan_of job = ap₂ (λ x y. record { config = x; faults = y }) c f in e) is);
}
