use Rattle.std.proofs.Common.{Option, false, true, subst}
use Rattle.mr_explore_places.specs.Going.{Stops}
use Rattle.mr_explore_places.specs.State.{whole}
use Rattle.mr_explore_places.specs.declared.level.Level.{Level}
use Rattle.mr_explore_noted.proofs.Going.{handed_on}
use Rattle.mr_explore_workers.specs.inner.Working.{GoesApart}
use Rattle.mr_explore_workers.proofs.Dividing.{as_said, last_taken, none_taken, one_taken}
use Rattle.mr_explore_workers.proofs.parts.take_round.Goals as goal

pub loop-init : goal.loop-init
loop-init g c bounds first given h = none_taken g.R.Run.steps g.R.AlikeRun.rest g.R.AlikeRun.before g.R.AlikeRun.void g.R.AlikeRun.like g.R.AlikeRun.ends g.R.NotedRun.end g.R.NotedRun.events bounds first given c.new-parts.result.items c.args.search.now c.args.noted.now c.new-parts.ensures.items h

pub returns-in_err-part-clause-fault : goal.returns-in_err-part-clause-fault
returns-in_err-part-clause-fault g c bounds first given h =
    handed_on (Stops g.R.Run.steps bounds.faults bounds.steps first) c.in_err-part.field-0.0 c.from_residual.result c.from_residual.ensures.1
    (c.in_err-part.ensures.fault bounds first (whole first) (c.loop.invariant bounds first given h).all (c.loop.invariant bounds first given h).gives)

pub returns-in-None-clause-takes : goal.returns-in-None-clause-takes
returns-in-None-clause-takes g c bounds first given h =
    as_said g.R.Run.steps g.R.AlikeRun.rest g.R.AlikeRun.before g.R.AlikeRun.void g.R.AlikeRun.like g.R.AlikeRun.ends g.R.NotedRun.end g.R.NotedRun.events bounds first given c.loop.parts.items c.of.result.parts.items true c.of.result.is_last c.forget_places.new.self c.next_part.new.noted c.of.ensures.parts c.of.ensures.is_last
    (last_taken g.R.Run.steps g.R.AlikeRun.rest g.R.AlikeRun.before g.R.AlikeRun.void g.R.AlikeRun.like g.R.AlikeRun.ends g.R.NotedRun.end g.R.NotedRun.events bounds first given c.loop.parts.items c.loop.search c.next_part.new.search c.forget_places.new.self c.loop.noted c.next_part.new.noted
    (λ all k. subst (λ (o : Option (Level g.row.R.Denot g.row.R-Fault.Denot)). GoesApart g.R.Run.steps g.R.AlikeRun.rest g.R.AlikeRun.before g.R.AlikeRun.void g.R.AlikeRun.like g.R.AlikeRun.ends g.R.NotedRun.end g.R.NotedRun.events bounds first (whole first) all o c.next_part.new.search c.next_part.new.noted) c.in-None.is (c.in_ok-part.ensures.next bounds first (whole first) all k))
    (c.loop.invariant bounds first given h))

pub loop-preserved : goal.loop-preserved
loop-preserved g c bounds first given h =
    one_taken g.R.Run.steps g.R.AlikeRun.rest g.R.AlikeRun.before g.R.AlikeRun.void g.R.AlikeRun.like g.R.AlikeRun.ends g.R.NotedRun.end g.R.NotedRun.events bounds first given c.loop.parts.items c.push.new.self.items c.loop.search c.next_part.new.search c.loop.noted c.next_part.new.noted c.in-Some.part c.in_ok-push-in-Some.ensures.items
    (λ all k. subst (λ (o : Option (Level g.row.R.Denot g.row.R-Fault.Denot)). GoesApart g.R.Run.steps g.R.AlikeRun.rest g.R.AlikeRun.before g.R.AlikeRun.void g.R.AlikeRun.like g.R.AlikeRun.ends g.R.NotedRun.end g.R.NotedRun.events bounds first (whole first) all o c.next_part.new.search c.next_part.new.noted) c.in-Some.is (c.in_ok-part.ensures.next bounds first (whole first) all k))
    (c.loop.invariant bounds first given h)

pub returns-clause-takes : goal.returns-clause-takes
returns-clause-takes g c bounds first given h =
    as_said g.R.Run.steps g.R.AlikeRun.rest g.R.AlikeRun.before g.R.AlikeRun.void g.R.AlikeRun.like g.R.AlikeRun.ends g.R.NotedRun.end g.R.NotedRun.events bounds first given c.loop.parts.items c.of-2.result.parts.items false c.of-2.result.is_last c.loop.search c.loop.noted c.of-2.ensures.parts c.of-2.ensures.is_last (c.loop.invariant bounds first given h)
