use Rattle.mr_sim.proofs.Sought.{fails_sought, prints_sought}
use Rattle.mr_sim.proofs.goal.explored.Goals as goal

pub returns-clause-ok : goal.returns-clause-ok
returns-clause-ok c = prints_sought (λ v. v.text.items) c.args.asked.now c.args.input.now c.explore_output.result c.in_ok-check_goal.ensures.ok c.explore_output.ensures.ok

pub returns-clause-fault : goal.returns-clause-fault
returns-clause-fault c = fails_sought c.args.asked.now c.args.input.now c.explore_output.result c.in_ok-check_goal.ensures.ok c.explore_output.ensures.fault
