use Rattle.mr_explore_search.proofs.Apart.{went_on}
use Rattle.mr_explore_search.proofs.dividing.divide_behind.Goals as goal

pub returns-in-Ok-None-clause-is : goal.returns-in-Ok-None-clause-is
returns-in-Ok-None-clause-is g c = λ none late most.
    went_on g.R.Run.steps most c.args.level c.in_ok-fork.fork c.args.levels.now c.go_further.new.levels c.in-Ok-None.field-0 c.in_ok-fork.ensures.is c.in-Ok-None.field-0-is c.in-Ok-None.ensures none late
