use Rattle.mr_commit.proofs.Effects as effects
use Rattle.mr_commit.proofs.Wholes.{setup_settles, task_settles, job_settles, abort_task_settles, abort_job_settles, recovery_settles}
use Rattle.mr_commit.proofs.laws.whole_forms_end.Goals as goal

pub returns : goal.returns
returns c = record { end = effects.whole_forms_end; tables = record { setup = setup_settles; task = task_settles; job = job_settles; abort_task = abort_task_settles; abort_job = abort_job_settles; recovery = recovery_settles } }
