use Rattle.std.proofs.Common.{◌∷◌, Option, Ok, ap, subst}
use Rattle.mr_explore_search.specs.declared.ended.Ended.{Ended}
use Rattle.mr_explore_places.specs.Fronts.{Leaves, Underway}
use Rattle.mr_explore_places.specs.Searching.{Advances, Turns}
use Rattle.mr_explore_places.proofs.Begun.{ends_so, goes_on_so, seeks_none, seeks_on, seeks_run, seeks_stopped, sought_as, sought_same, stops_so}
use Rattle.mr_explore_places.proofs.turn.seek.Goals as goal
use Rattle.mr_explore_places.proofs.turn.seek.Goals.{in-Some+in_ok-ended+in_default-2, in_default+in-Some-pop_front+in_ok-ended-in-Some-pop_front+in_default-3}

pub returns-in_err-ended : goal.returns-in_err-ended
returns-in_err-ended g c = stops_so g.R.Run.steps g.R.AlikeRun.rest g.R.AlikeRun.before g.R.AlikeRun.void g.R.AlikeRun.like g.R.AlikeRun.ends c.args.bounds.now.faults c.args.bounds.now.steps c.args.stores.now c.args.front.now c.args.levels.now c.loop.stores c.in-Some.going c.next_going.new.front c.advance.new.front c.loop.levels c.advance.new.levels (sought_same g.R.Run.steps g.R.AlikeRun.rest g.R.AlikeRun.before g.R.AlikeRun.void g.R.AlikeRun.like g.R.AlikeRun.ends c.args.bounds.now.faults c.args.bounds.now.steps c.args.stores.now c.args.front.now c.args.levels.now c.loop.stores c.loop.front (c.in-Some.going ∷ c.next_going.new.front) c.loop.levels (subst (λ (o : Option (Underway g.row.R.Denot g.row.R-Fault.Denot)). Leaves c.loop.front o c.next_going.new.front) c.in-Some.is c.in_ok-going.ensures.leaves) c.loop.invariant) c.in_err-ended.field-0.0 c.from_residual-in_err-ended.result (c.in_err-ended.ensures c.args.bounds.now.faults c.args.bounds.now.steps) c.from_residual-in_err-ended.ensures.1

pub returns-in-Some-2 : goal.returns-in-Some-2
returns-in-Some-2 g c = ends_so g.R.Run.steps g.R.AlikeRun.rest g.R.AlikeRun.before g.R.AlikeRun.void g.R.AlikeRun.like g.R.AlikeRun.ends c.args.bounds.now.faults c.args.bounds.now.steps c.args.stores.now c.args.front.now c.args.levels.now c.loop.stores c.in-Some.going c.next_going.new.front c.advance.new.front c.loop.levels c.advance.new.levels (sought_same g.R.Run.steps g.R.AlikeRun.rest g.R.AlikeRun.before g.R.AlikeRun.void g.R.AlikeRun.like g.R.AlikeRun.ends c.args.bounds.now.faults c.args.bounds.now.steps c.args.stores.now c.args.front.now c.args.levels.now c.loop.stores c.loop.front (c.in-Some.going ∷ c.next_going.new.front) c.loop.levels (subst (λ (o : Option (Underway g.row.R.Denot g.row.R-Fault.Denot)). Leaves c.loop.front o c.next_going.new.front) c.in-Some.is c.in_ok-going.ensures.leaves) c.loop.invariant) c.in-Some-2.ended (subst (λ (o : Option (Ended g.row.R.Denot)). Advances g.R.Run.steps g.R.AlikeRun.rest g.R.AlikeRun.before g.R.AlikeRun.void g.R.AlikeRun.like g.R.AlikeRun.ends c.args.bounds.now.faults c.args.bounds.now.steps c.in-Some.going c.loop.stores c.next_going.new.front c.loop.levels (Ok o) c.advance.new.front c.advance.new.levels) c.in-Some-2.is (c.in_ok-ended.ensures c.args.bounds.now.faults c.args.bounds.now.steps))

pub returns-in_err-ended-in-Some-pop_front : goal.returns-in_err-ended-in-Some-pop_front
returns-in_err-ended-in-Some-pop_front g c = seeks_stopped g.R.Run.steps g.R.AlikeRun.rest g.R.AlikeRun.before g.R.AlikeRun.void g.R.AlikeRun.like g.R.AlikeRun.ends c.args.bounds.now.faults c.args.bounds.now.steps c.args.stores.now c.args.front.now c.args.levels.now c.loop.stores c.turn.new.stores c.next_going.new.front c.turn.new.front c.in-Some-pop_front.level c.loop.levels c.pop_front.new.self c.turn.new.levels c.in-Some-pop_front.ensures.items (sought_same g.R.Run.steps g.R.AlikeRun.rest g.R.AlikeRun.before g.R.AlikeRun.void g.R.AlikeRun.like g.R.AlikeRun.ends c.args.bounds.now.faults c.args.bounds.now.steps c.args.stores.now c.args.front.now c.args.levels.now c.loop.stores c.loop.front c.next_going.new.front c.loop.levels (subst (λ (o : Option (Underway g.row.R.Denot g.row.R-Fault.Denot)). Leaves c.loop.front o c.next_going.new.front) c.in_default.is c.in_ok-going.ensures.leaves) c.loop.invariant) c.in_err-ended-in-Some-pop_front.field-0.0 c.from_residual-in_err-ended-in-Some-pop_front.result c.in_err-ended-in-Some-pop_front.ensures c.from_residual-in_err-ended-in-Some-pop_front.ensures.1

pub returns-in-Some-3 : goal.returns-in-Some-3
returns-in-Some-3 g c = seeks_run g.R.Run.steps g.R.AlikeRun.rest g.R.AlikeRun.before g.R.AlikeRun.void g.R.AlikeRun.like g.R.AlikeRun.ends c.args.bounds.now.faults c.args.bounds.now.steps c.args.stores.now c.args.front.now c.args.levels.now c.loop.stores c.turn.new.stores c.next_going.new.front c.turn.new.front c.in-Some-pop_front.level c.loop.levels c.pop_front.new.self c.turn.new.levels c.in-Some-pop_front.ensures.items (sought_same g.R.Run.steps g.R.AlikeRun.rest g.R.AlikeRun.before g.R.AlikeRun.void g.R.AlikeRun.like g.R.AlikeRun.ends c.args.bounds.now.faults c.args.bounds.now.steps c.args.stores.now c.args.front.now c.args.levels.now c.loop.stores c.loop.front c.next_going.new.front c.loop.levels (subst (λ (o : Option (Underway g.row.R.Denot g.row.R-Fault.Denot)). Leaves c.loop.front o c.next_going.new.front) c.in_default.is c.in_ok-going.ensures.leaves) c.loop.invariant) c.in-Some-3.ended (subst (λ (o : Option (Ended g.row.R.Denot)). Turns g.R.Run.steps g.R.AlikeRun.rest g.R.AlikeRun.before g.R.AlikeRun.void g.R.AlikeRun.like g.R.AlikeRun.ends c.args.bounds.now.faults c.args.bounds.now.steps c.in-Some-pop_front.level c.loop.stores c.next_going.new.front c.pop_front.new.self (Ok o) c.turn.new.stores c.turn.new.front c.turn.new.levels) c.in-Some-3.is c.in_ok-ended-in-Some-pop_front.ensures)

pub returns-in-None : goal.returns-in-None
returns-in-None g c = (seeks_none g.R.Run.steps g.R.AlikeRun.rest g.R.AlikeRun.before g.R.AlikeRun.void g.R.AlikeRun.like g.R.AlikeRun.ends c.args.bounds.now.faults c.args.bounds.now.steps c.args.stores.now c.loop.stores c.args.front.now c.next_going.new.front c.args.levels.now c.loop.levels c.pop_front.new.self c.in-None.ensures.cases.0 c.in-None.ensures.cases.1 (c.in_ok-going.ensures.last c.in-None.ensures.cases.0 (ap (λ (o : Option (Underway g.row.R.Denot g.row.R-Fault.Denot)). Ok o) c.in_default.is)) (sought_same g.R.Run.steps g.R.AlikeRun.rest g.R.AlikeRun.before g.R.AlikeRun.void g.R.AlikeRun.like g.R.AlikeRun.ends c.args.bounds.now.faults c.args.bounds.now.steps c.args.stores.now c.args.front.now c.args.levels.now c.loop.stores c.loop.front c.next_going.new.front c.loop.levels (subst (λ (o : Option (Underway g.row.R.Denot g.row.R-Fault.Denot)). Leaves c.loop.front o c.next_going.new.front) c.in_default.is c.in_ok-going.ensures.leaves) c.loop.invariant))

pub loop-preserved : goal.loop-preserved
loop-preserved g c = elim c.match-branch-2.branch [
  | in-Some+in_ok-ended+in_default-2 w ↦
      sought_as g.R.Run.steps g.R.AlikeRun.rest g.R.AlikeRun.before g.R.AlikeRun.void g.R.AlikeRun.like g.R.AlikeRun.ends c.args.bounds.now.faults c.args.bounds.now.steps c.args.stores.now c.args.front.now c.args.levels.now c.loop.stores c.match-branch-2.stores w.advance.new.front c.match-branch-2.front w.advance.new.levels c.match-branch-2.levels w.stores-is w.front-is w.levels-is
      (goes_on_so g.R.Run.steps g.R.AlikeRun.rest g.R.AlikeRun.before g.R.AlikeRun.void g.R.AlikeRun.like g.R.AlikeRun.ends c.args.bounds.now.faults c.args.bounds.now.steps c.args.stores.now c.args.front.now c.args.levels.now c.loop.stores w.in-Some.going c.next_going.new.front w.advance.new.front c.loop.levels w.advance.new.levels (sought_same g.R.Run.steps g.R.AlikeRun.rest g.R.AlikeRun.before g.R.AlikeRun.void g.R.AlikeRun.like g.R.AlikeRun.ends c.args.bounds.now.faults c.args.bounds.now.steps c.args.stores.now c.args.front.now c.args.levels.now c.loop.stores c.loop.front (w.in-Some.going ∷ c.next_going.new.front) c.loop.levels (subst (λ (o : Option (Underway g.row.R.Denot g.row.R-Fault.Denot)). Leaves c.loop.front o c.next_going.new.front) w.in-Some.is c.in_ok-going.ensures.leaves) c.loop.invariant) (subst (λ (o : Option (Ended g.row.R.Denot)). Advances g.R.Run.steps g.R.AlikeRun.rest g.R.AlikeRun.before g.R.AlikeRun.void g.R.AlikeRun.like g.R.AlikeRun.ends c.args.bounds.now.faults c.args.bounds.now.steps w.in-Some.going c.loop.stores c.next_going.new.front c.loop.levels (Ok o) w.advance.new.front w.advance.new.levels) w.in_default-2.is (w.in_ok-ended.ensures c.args.bounds.now.faults c.args.bounds.now.steps)))
  | in_default+in-Some-pop_front+in_ok-ended-in-Some-pop_front+in_default-3 w ↦
      sought_as g.R.Run.steps g.R.AlikeRun.rest g.R.AlikeRun.before g.R.AlikeRun.void g.R.AlikeRun.like g.R.AlikeRun.ends c.args.bounds.now.faults c.args.bounds.now.steps c.args.stores.now c.args.front.now c.args.levels.now w.turn.new.stores c.match-branch-2.stores w.turn.new.front c.match-branch-2.front w.turn.new.levels c.match-branch-2.levels w.stores-is w.front-is w.levels-is
      (seeks_on g.R.Run.steps g.R.AlikeRun.rest g.R.AlikeRun.before g.R.AlikeRun.void g.R.AlikeRun.like g.R.AlikeRun.ends c.args.bounds.now.faults c.args.bounds.now.steps c.args.stores.now c.args.front.now c.args.levels.now c.loop.stores w.turn.new.stores c.next_going.new.front w.turn.new.front w.in-Some-pop_front.level c.loop.levels w.pop_front.new.self w.turn.new.levels w.in-Some-pop_front.ensures.items (sought_same g.R.Run.steps g.R.AlikeRun.rest g.R.AlikeRun.before g.R.AlikeRun.void g.R.AlikeRun.like g.R.AlikeRun.ends c.args.bounds.now.faults c.args.bounds.now.steps c.args.stores.now c.args.front.now c.args.levels.now c.loop.stores c.loop.front c.next_going.new.front c.loop.levels (subst (λ (o : Option (Underway g.row.R.Denot g.row.R-Fault.Denot)). Leaves c.loop.front o c.next_going.new.front) w.in_default.is c.in_ok-going.ensures.leaves) c.loop.invariant) (subst (λ (o : Option (Ended g.row.R.Denot)). Turns g.R.Run.steps g.R.AlikeRun.rest g.R.AlikeRun.before g.R.AlikeRun.void g.R.AlikeRun.like g.R.AlikeRun.ends c.args.bounds.now.faults c.args.bounds.now.steps w.in-Some-pop_front.level c.loop.stores c.next_going.new.front w.pop_front.new.self (Ok o) w.turn.new.stores w.turn.new.front w.turn.new.levels) w.in_default-3.is w.in_ok-ended-in-Some-pop_front.ensures))
]
