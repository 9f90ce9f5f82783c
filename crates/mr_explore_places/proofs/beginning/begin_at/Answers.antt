use Rattle.std.proofs.Common.{Bool, List, subst, ap, ◌∙◌}
use Rattle.mr_explore_places.specs.Keeping.{Visits}
use Rattle.mr_explore_places.specs.Levels.{with_faults}
use Rattle.mr_explore_places.specs.declared.level.Level.{Level}
use Rattle.mr_explore_places.proofs.Begun.{begin_covered, begin_done, begin_stops}
use Rattle.mr_explore_places.proofs.beginning.begin_at.Goals as goal

pub returns-then-not-branch : goal.returns-then-not-branch
returns-then-not-branch g c = λ going.
    let visits = subst (λ (b : Bool). Visits g.R.AlikeRun.before g.R.AlikeRun.like c.args.stores.now c.args.place b c.visit.new.stores) c.if-not-branch.true c.in_ok-visit.ensures.visits in
    begin_covered g.R.Run.steps g.R.AlikeRun.rest g.R.AlikeRun.before g.R.AlikeRun.void g.R.AlikeRun.like g.R.AlikeRun.ends c.args.bounds.now.faults c.args.bounds.now.steps c.args.place c.args.stores.now c.visit.new.stores going c.args.levels.now visits

pub returns-in_err-trail : goal.returns-in_err-trail
returns-in_err-trail g c = λ going.
    let visits = subst (λ (b : Bool). Visits g.R.AlikeRun.before g.R.AlikeRun.like c.args.stores.now c.args.place b c.visit.new.stores) c.if-not-branch.false c.in_ok-visit.ensures.visits in
    begin_stops g.R.Run.steps g.R.AlikeRun.rest g.R.AlikeRun.before g.R.AlikeRun.void g.R.AlikeRun.like g.R.AlikeRun.ends c.args.bounds.now.faults c.args.bounds.now.steps c.args.place c.args.stores.now c.visit.new.stores c.follow.new.stores going c.args.levels.now c.args.levels.now
    c.in_err-trail.field-0.0 c.from_residual-in_err-trail.result visits c.in_err-trail.ensures c.from_residual-in_err-trail.ensures.1

pub returns : goal.returns
returns g c = λ going.
    let visits = subst (λ (b : Bool). Visits g.R.AlikeRun.before g.R.AlikeRun.like c.args.stores.now c.args.place b c.visit.new.stores) c.if-not-branch.false c.in_ok-visit.ensures.visits in
    begin_done g.R.Run.steps g.R.AlikeRun.rest g.R.AlikeRun.before g.R.AlikeRun.void g.R.AlikeRun.like g.R.AlikeRun.ends c.args.bounds.now.faults c.args.bounds.now.steps c.args.place c.args.stores.now c.visit.new.stores c.follow.new.stores going c.args.levels.now c.push_faults.new.levels
    c.in_ok-trail.trail c.in_ok-trying.trying c.in_ok-coming.coming visits c.in_ok-trail.ensures c.in_ok-trying.ensures.is c.in_ok-coming.ensures.is
    (c.in_ok-push_faults.ensures.pushes ∙ ap (λ (z : List (Level g.row.R.Denot g.row.R-Fault.Denot)). with_faults c.in_ok-trying.trying c.in_ok-trail.trail.beyond z) c.in_ok-push_late.ensures.pushes)
