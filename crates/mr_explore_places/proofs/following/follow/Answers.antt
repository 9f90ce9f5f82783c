use Rattle.std.proofs.Common.{◌≡◌, ◌<◌, ◌-◌, ◌+◌, ℕ, suc, Bool, Ok, subst, arith}
use Rattle.mr_explore_places.specs.Going.{StepsOn}
use Rattle.mr_explore_places.specs.Keeping.{Visits}
use Rattle.mr_explore_places.proofs.Trails.{IsFollowedTo, follows_on, follows_to_another, follows_to_end, stops_at}
use Rattle.mr_explore_places.proofs.following.follow.Goals as goal

pub returns-in_err-step_on : goal.returns-in_err-step_on
returns-in_err-step_on g c =
    let few : c.loop-beyond.beyond < c.args.bounds.now.steps = omega (arith, c.loop-beyond-test.true) in
    let spare : c.args.bounds.now.steps - c.loop-beyond.beyond ≡ suc (c.args.bounds.now.steps - (c.loop-beyond.beyond + 1)) = omega (arith, few) in
    stops_at g.R.Run.steps g.R.AlikeRun.rest g.R.AlikeRun.before g.R.AlikeRun.void g.R.AlikeRun.like g.R.AlikeRun.ends c.args.bounds.now.faults c.args.bounds.now.steps c.loop-beyond.beyond (c.args.bounds.now.steps - (c.loop-beyond.beyond + 1)) c.args.place c.args.stores.now c.loop-beyond.place c.step_on.new.place c.loop-beyond.stores c.loop-beyond.stores c.in_err-step_on.field-0.0 c.from_residual.result
    (subst (λ z. IsFollowedTo g.R.Run.steps g.R.AlikeRun.rest g.R.AlikeRun.before g.R.AlikeRun.void g.R.AlikeRun.like g.R.AlikeRun.ends c.args.bounds.now.faults c.args.bounds.now.steps c.loop-beyond.beyond z c.args.place c.args.stores.now c.loop-beyond.place c.loop-beyond.stores) spare c.loop-beyond.invariant)
    c.in_err-step_on.ensures c.from_residual.ensures.1

pub returns-then-not-branch : goal.returns-then-not-branch
returns-then-not-branch g c =
    let few : c.loop-beyond.beyond < c.args.bounds.now.steps = omega (arith, c.loop-beyond-test.true) in
    let spare : c.args.bounds.now.steps - c.loop-beyond.beyond ≡ suc (c.args.bounds.now.steps - (c.loop-beyond.beyond + 1)) = omega (arith, few) in
    let stops = subst (λ (b : Bool). StepsOn g.R.Run.steps c.loop-beyond.place (Ok b) c.step_on.new.place) c.if-not-branch.true c.in_ok-step_on.ensures in
    follows_to_end g.R.Run.steps g.R.AlikeRun.rest g.R.AlikeRun.before g.R.AlikeRun.void g.R.AlikeRun.like g.R.AlikeRun.ends c.args.bounds.now.faults c.args.bounds.now.steps c.loop-beyond.beyond (c.args.bounds.now.steps - (c.loop-beyond.beyond + 1)) c.args.place c.args.stores.now c.loop-beyond.place c.step_on.new.place c.loop-beyond.stores c.at_end-ended.result
    (subst (λ z. IsFollowedTo g.R.Run.steps g.R.AlikeRun.rest g.R.AlikeRun.before g.R.AlikeRun.void g.R.AlikeRun.like g.R.AlikeRun.ends c.args.bounds.now.faults c.args.bounds.now.steps c.loop-beyond.beyond z c.args.place c.args.stores.now c.loop-beyond.place c.loop-beyond.stores) spare c.loop-beyond.invariant)
    stops c.at_end-ended.ensures

pub returns-then-not-branch-2 : goal.returns-then-not-branch-2
returns-then-not-branch-2 g c =
    let few : c.loop-beyond.beyond < c.args.bounds.now.steps = omega (arith, c.loop-beyond-test.true) in
    let spare : c.args.bounds.now.steps - c.loop-beyond.beyond ≡ suc (c.args.bounds.now.steps - (c.loop-beyond.beyond + 1)) = omega (arith, few) in
    let goes = subst (λ (b : Bool). StepsOn g.R.Run.steps c.loop-beyond.place (Ok b) c.step_on.new.place) c.if-not-branch.false c.in_ok-step_on.ensures in
    let visits = subst (λ (b : Bool). Visits g.R.AlikeRun.before g.R.AlikeRun.like c.loop-beyond.stores c.step_on.new.place b c.visit.new.stores) c.if-not-branch-2.true c.in_ok-visit.ensures.visits in
    follows_to_another g.R.Run.steps g.R.AlikeRun.rest g.R.AlikeRun.before g.R.AlikeRun.void g.R.AlikeRun.like g.R.AlikeRun.ends c.args.bounds.now.faults c.args.bounds.now.steps c.loop-beyond.beyond (c.args.bounds.now.steps - (c.loop-beyond.beyond + 1)) c.args.place c.args.stores.now c.loop-beyond.place c.step_on.new.place c.loop-beyond.stores c.visit.new.stores
    (subst (λ z. IsFollowedTo g.R.Run.steps g.R.AlikeRun.rest g.R.AlikeRun.before g.R.AlikeRun.void g.R.AlikeRun.like g.R.AlikeRun.ends c.args.bounds.now.faults c.args.bounds.now.steps c.loop-beyond.beyond z c.args.place c.args.stores.now c.loop-beyond.place c.loop-beyond.stores) spare c.loop-beyond.invariant)
    goes visits

pub loop-beyond-preserved : goal.loop-beyond-preserved
loop-beyond-preserved g c =
    let few : c.loop-beyond.beyond < c.args.bounds.now.steps = omega (arith, c.loop-beyond-test.true) in
    let spare : c.args.bounds.now.steps - c.loop-beyond.beyond ≡ suc (c.args.bounds.now.steps - (c.loop-beyond.beyond + 1)) = omega (arith, few) in
    let more : suc c.loop-beyond.beyond ≡ c.loop-beyond.beyond + 1 = omega arith in
    let goes = subst (λ (b : Bool). StepsOn g.R.Run.steps c.loop-beyond.place (Ok b) c.step_on.new.place) c.if-not-branch.false c.in_ok-step_on.ensures in
    let visits = subst (λ (b : Bool). Visits g.R.AlikeRun.before g.R.AlikeRun.like c.loop-beyond.stores c.step_on.new.place b c.visit.new.stores) c.if-not-branch-2.false c.in_ok-visit.ensures.visits in
    subst (λ (z : ℕ). IsFollowedTo g.R.Run.steps g.R.AlikeRun.rest g.R.AlikeRun.before g.R.AlikeRun.void g.R.AlikeRun.like g.R.AlikeRun.ends c.args.bounds.now.faults c.args.bounds.now.steps z (c.args.bounds.now.steps - (c.loop-beyond.beyond + 1)) c.args.place c.args.stores.now c.step_on.new.place c.visit.new.stores) more
    (follows_on g.R.Run.steps g.R.AlikeRun.rest g.R.AlikeRun.before g.R.AlikeRun.void g.R.AlikeRun.like g.R.AlikeRun.ends c.args.bounds.now.faults c.args.bounds.now.steps c.loop-beyond.beyond (c.args.bounds.now.steps - (c.loop-beyond.beyond + 1)) c.args.place c.args.stores.now c.loop-beyond.place c.step_on.new.place c.loop-beyond.stores c.visit.new.stores
    (subst (λ z. IsFollowedTo g.R.Run.steps g.R.AlikeRun.rest g.R.AlikeRun.before g.R.AlikeRun.void g.R.AlikeRun.like g.R.AlikeRun.ends c.args.bounds.now.faults c.args.bounds.now.steps c.loop-beyond.beyond z c.args.place c.args.stores.now c.loop-beyond.place c.loop-beyond.stores) spare c.loop-beyond.invariant)
    goes visits)
