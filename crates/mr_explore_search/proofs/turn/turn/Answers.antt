use Rattle.std.proofs.Common.{subst}
use Rattle.mr_explore_search.specs.inner.Stack.{Departed}
use Rattle.mr_explore_search.proofs.Turning.{turned_on}
use Rattle.mr_explore_search.proofs.turn.turn.Goals as goal

pub returns-in-Some : goal.returns-in-Some
returns-in-Some g c =
    turned_on g.R.Run.steps c.args.most c.args.level c.in-Some.tried c.args.levels.now c.depart.new.levels c.go_from.new.levels c.go_from.result
    (subst (λ o. Departed g.R.Run.steps c.args.most c.args.level c.args.levels.now o c.depart.new.levels) c.in-Some.is c.in_ok-tried.ensures.departs) c.go_from.ensures
