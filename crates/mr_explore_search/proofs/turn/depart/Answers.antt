use Rattle.mr_explore_search.proofs.Turning.{turned_fault}
use Rattle.mr_explore_search.proofs.turn.depart.Goals as goal

pub returns-in_ok-try_fault-in-Some-clause-departs : goal.returns-in_ok-try_fault-in-Some-clause-departs
returns-in_ok-try_fault-in-Some-clause-departs g c =
    turned_fault g.R.Run.steps c.args.most c.args.level c.in-Some.fault c.pop_front.new.self c.args.levels.now c.try_fault.new.levels c.in-Some.ensures.items c.in_ok-try_fault-in-Some.ensures.tries
