use Rattle.mr_explore.proofs.Beginning.{begins, begins_not}
use Rattle.mr_explore.proofs.explored.Explored.new.Goals as goal

pub returns-in-Ok-clause-run : goal.returns-in-Ok-clause-run
returns-in-Ok-clause-run c = begins c.args.input.now c.in_ok-player.player _ c.in_ok-player.ensures.ok c.in-Ok.ensures.is

pub returns-in-Err-clause-fault : goal.returns-in-Err-clause-fault
returns-in-Err-clause-fault c = begins_not c.args.input.now c.in_ok-player.player c.in-Err.fault c.in_ok-player.ensures.ok c.in-Err.ensures.fault
