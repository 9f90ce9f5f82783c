-- The rows hold by computation.
use Rattle.std.proofs.Common.{refl}
use Rattle.mr_grant.specs.Attempts.{same_attempt}
use Rattle.mr_task.specs.Readings as task
use Rattle.mr_history.specs.Winner.{winner_in, length_in}
use Rattle.mr_master_model.specs.Job.{first_tasks}
use Rattle.mr_master_model.specs.Hearing.{heard, delivered}
use Rattle.mr_master_model.specs.Duty.{duty_at}
use Rattle.mr_master_model.specs.Answered.{recorded, changed, work_after}
use Rattle.mr_master_model.specs.Sends.{to_all, replies, work_sends, killed_by}
use Rattle.mr_master_model.specs.Next.{moved, sent_by, next_seen, seen}
use Rattle.mr_master_model.specs.Rows.{FreshMaster, SmallJob}

pub fresh_master : FreshMaster
unfolding seen next_seen moved sent_by duty_at changed work_after work_sends killed_by
fresh_master = record {
  first = λ w. refl;
  second = λ w. refl;
  third = λ w. refl;
  succeeded = λ w kind. refl;
  told = λ w kind. refl;
  failed = λ w kind. refl;
  begun = λ w kind. refl;
  goes_on = λ w. refl;
  unsuccessful = λ w. refl;
  faulted = λ w. refl;
}

pub small_job : SmallJob
unfolding seen next_seen moved sent_by delivered heard replies duty_at changed work_after work_sends killed_by recorded to_all first_tasks winner_in length_in task.seen task.next_seen same_attempt
small_job = record {
  runs = refl;
  waits = refl;
  map_first = refl;
  launch = refl;
  only_started = refl;
  no_flush = refl;
  then_reduce = refl;
  named = refl;
  due = refl;
  not_yet = refl;
  flush = refl;
  won = refl;
  started = refl;
  commits = refl;
}
