use Rattle.std.proofs.Common.{◌∷◌, IfSome, subst}
use Rattle.mr_explore_places.specs.Going.{Stops}
use Rattle.mr_explore_noted.proofs.Going.{handed_on}
use Rattle.mr_explore_workers.specs.inner.Working.{HasNext}
use Rattle.mr_explore_workers.proofs.Dividing.{first_next}
use Rattle.mr_explore_workers.proofs.parted.make_rounds.Goals as goal

pub returns-in_err-round-clause-fault : goal.returns-in_err-round-clause-fault
returns-in_err-round-clause-fault g c bounds first h =
    handed_on (Stops g.R.Run.steps bounds.faults bounds.steps first) c.in_err-round.field-0.0 c.from_residual.result c.from_residual.ensures.1 (c.in_err-round.ensures.fault bounds first h.0 h.1)

pub loop-init : goal.loop-init
loop-init g c bounds first h =
    first_next g.R.Run.steps g.R.AlikeRun.rest g.R.AlikeRun.before g.R.AlikeRun.void g.R.AlikeRun.like g.R.AlikeRun.ends g.R.NotedRun.end g.R.NotedRun.events bounds first c.args.leader.now.search c.take_round.new.search c.args.leader.now.noted c.take_round.new.noted (c.args.leader.now.worker ∷ c.args.others.now.items) c.in_ok-round.round.is_last c.in_ok-round.round.parts.items (c.in_ok-round.ensures.takes bounds first) h

pub returns-in_err-next-clause-fault : goal.returns-in_err-next-clause-fault
returns-in_err-next-clause-fault g c bounds first h =
    handed_on (Stops g.R.Run.steps bounds.faults bounds.steps first) c.in_err-next.field-0.0 c.from_residual-in_err-next.result c.from_residual-in_err-next.ensures.1 (c.in_err-next.ensures.fault bounds first (c.loop.invariant bounds first h))

pub returns-in-None-clause-all : goal.returns-in-None-clause-all
returns-in-None-clause-all g c bounds first h = c.in_ok-next.ensures.done bounds first (c.loop.invariant bounds first h) c.in-None.is

pub loop-preserved : goal.loop-preserved
loop-preserved g c bounds first h =
    subst (λ o. IfSome o (λ r. HasNext g.R.Run.steps g.R.AlikeRun.rest g.R.AlikeRun.before g.R.AlikeRun.void g.R.AlikeRun.like g.R.AlikeRun.ends g.R.NotedRun.end g.R.NotedRun.events bounds first r.is_last r.parts.items c.make_round.new.leader.search c.make_round.new.leader.noted (c.make_round.new.leader.worker ∷ c.make_round.new.others.items))) c.in-Some.is
    (c.in_ok-next.ensures.next bounds first (c.loop.invariant bounds first h))
