use Rattle.mr_sim.proofs.Sought.{merged_sought, prints_merged}
use Rattle.mr_sim.proofs.goal.merged_with.Goals as goal

pub returns-clause-ok : goal.returns-clause-ok
returns-clause-ok g c = prints_merged (λ v. v.text.items) c.args.asked.now c.args.input.now c.merged_by_threads.result c.in_ok-check_goal.ensures.ok c.merged_by_threads.ensures.ok

pub returns-clause-fault : goal.returns-clause-fault
returns-clause-fault g c = merged_sought c.args.asked.now c.args.input.now c.merged_by_threads.result c.in_ok-check_goal.ensures.ok c.merged_by_threads.ensures.fault
