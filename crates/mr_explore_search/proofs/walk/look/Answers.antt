use Rattle.mr_explore_search.proofs.Looking.{looked_limit, looked_none, looked_run}
use Rattle.mr_explore_search.proofs.walk.look.Goals as goal

pub returns-in-Ok-Some : goal.returns-in-Ok-Some
returns-in-Ok-Some g c = looked_run g.R.Run.steps c.args.most c.args.levels.now c.next_of.new.levels c.in-Ok-Some.field-0 c.in-Ok-Some.ended c.in-Ok-Some.field-0-is c.in-Ok-Some.ensures

pub returns-in-Ok-None : goal.returns-in-Ok-None
returns-in-Ok-None g c = looked_none g.R.Run.steps c.args.most c.args.levels.now c.next_of.new.levels c.in-Ok-None.field-0 c.in-Ok-None.field-0-is c.in-Ok-None.ensures

pub returns-in-Err-Full : goal.returns-in-Err-Full
returns-in-Err-Full g c = looked_limit g.R.Run.steps c.args.most c.args.levels.now c.next_of.new.levels c.in-Err-Full.field-0 c.in-Err-Full.field-0-is c.in-Err-Full.ensures
