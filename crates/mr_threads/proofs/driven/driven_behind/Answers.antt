use Rattle.mr_threads.proofs.Reported.{is_report}
use Rattle.mr_threads.proofs.driven.driven_behind.Goals as goal

pub returns-in-Ok-clause-ok : goal.returns-in-Ok-clause-ok
returns-in-Ok-clause-ok g c = is_report _ c.args.plan.now c.in-Ok.report c.jobs_have_their_laws.ensures c.marked_worlds_show_sequential_files.ensures c.ranges-2.ensures.numbers c.ranges-2.ensures.splits c.in-Ok.ensures.report
