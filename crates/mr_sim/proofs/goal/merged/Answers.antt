use Rattle.mr_sim.proofs.Sought.{merged_sought, prints_merged}
use Rattle.mr_sim.proofs.goal.merged.Goals as goal

pub returns-clause-ok : goal.returns-clause-ok
returns-clause-ok c = prints_merged (λ v. v.text.items) c.args.asked.now c.args.input.now c.merged_output.result c.in_ok-check_goal.ensures.ok c.merged_output.ensures.ok

pub returns-clause-fault : goal.returns-clause-fault
returns-clause-fault c = merged_sought c.args.asked.now c.args.input.now c.merged_output.result c.in_ok-check_goal.ensures.ok c.merged_output.ensures.fault
