use Rattle.std.proofs.Common.{subst, ap}
use Rattle.mr_master_state.specs.declared.blame.Blame.{Blame}
use Rattle.mr_master_state.specs.Told.{blamed, blame_count}
use Rattle.mr_master_state.specs.Prepared.{HasRecordRoom}
use Rattle.mr_master_state.proofs.Keeping.{by-seen}
use Rattle.mr_master_state.proofs.machine.Machine.record_blame.Goals as goal

pub returns-in-Nobody : goal.returns-in-Nobody
returns-in-Nobody c = λ w s keeps. by-seen w (ap (λ (b : Blame). blamed s c.args.attempt b) c.in-Nobody.is) keeps

pub fail_attempt-requires : goal.fail_attempt-requires
fail_attempt-requires c = subst (λ (b : Blame). HasRecordRoom c.args.self.now (blame_count b)) c.in-Attempt.is c.requires

pub returns-in-Attempt : goal.returns-in-Attempt
returns-in-Attempt c = λ w s keeps. by-seen w (ap (λ (b : Blame). blamed s c.args.attempt b) c.in-Attempt.is) (c.fail_attempt.ensures w s keeps)

pub fail_job-requires : goal.fail_job-requires
fail_job-requires c = subst (λ (b : Blame). HasRecordRoom c.args.self.now (blame_count b)) c.in-Job.is c.requires

pub returns-in-Job : goal.returns-in-Job
returns-in-Job c = λ w s keeps. by-seen w (ap (λ (b : Blame). blamed s c.args.attempt b) c.in-Job.is) (c.fail_job.ensures w s keeps)
