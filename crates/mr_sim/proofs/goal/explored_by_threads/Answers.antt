use Rattle.mr_sim.proofs.Sought.{fails_sought, prints_sought}
use Rattle.mr_sim.proofs.goal.explored_by_threads.Goals as goal

pub returns-clause-ok : goal.returns-clause-ok
returns-clause-ok g c = prints_sought (λ v. v.text.items) c.args.asked.now c.args.input.now c.explore_by_threads.result c.in_ok-check_goal.ensures.ok c.explore_by_threads.ensures.ok

pub returns-clause-fault : goal.returns-clause-fault
returns-clause-fault g c = fails_sought c.args.asked.now c.args.input.now c.explore_by_threads.result c.in_ok-check_goal.ensures.ok c.explore_by_threads.ensures.fault
