use Rattle.mr_explore_threads.proofs.Beginning.{alone}
use Rattle.mr_explore_threads.proofs.Failing.{begins_failed}
use Rattle.mr_explore_threads.proofs.output.begun_alone.Goals as goal

pub returns-clause-begun : goal.returns-clause-begun
returns-clause-begun c = alone c.args.asked.now c.args.input.now c.new.result c.new.ensures.begins

pub returns-clause-fault : goal.returns-clause-fault
returns-clause-fault c = begins_failed c.args.asked.now c.args.input.now c.new.result c.new.ensures.fault
