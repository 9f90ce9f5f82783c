use Rattle.std.proofs.Common.{◌≡◌, ◌-◌, suc, Bool, true, false, Ok, Err, ap, ◌∙◌, subst, arith}
use Rattle.mr_explore_alike.specs.Leaving.{Here}
use Rattle.mr_explore_search.specs.declared.ended.Ended.{Ended}
use Rattle.mr_explore_places.specs.Going.{StepsOn}
use Rattle.mr_explore_places.proofs.Fronts.{advance_stops, advances_on, advances_to_end}
use Rattle.mr_explore_places.proofs.going.advance.Goals as goal

pub returns-in_err-step_on : goal.returns-in_err-step_on
returns-in_err-step_on g c = λ budget most.
    let spare : c.going.inside.left ≡ suc (c.going.inside.left - 1) = omega (arith, c.if-left-eq0.false) in
    let stops = subst (λ (h : Here g.row.R.Denot g.row.R-Fault.Denot). StepsOn g.R.Run.steps h (Err c.in_err-step_on.field-0.0) c.step_on.new.place) c.deref_mut.ensures.value c.in_err-step_on.ensures in
    rw (← c.going.view_is) (advance_stops g.R.Run.steps g.R.AlikeRun.rest g.R.AlikeRun.before g.R.AlikeRun.void g.R.AlikeRun.like g.R.AlikeRun.ends budget most (record { left = c.going.inside.left; here = c.going.inside.place.value }) (c.going.inside.left - 1) c.args.stores.now c.args.front.now c.args.front.now c.args.levels.now c.args.levels.now c.step_on.new.place c.in_err-step_on.field-0.0 c.from_residual.result spare stops c.from_residual.ensures.1)

pub returns-then-not-branch : goal.returns-then-not-branch
returns-then-not-branch g c = λ budget most.
    let spare : c.going.inside.left ≡ suc (c.going.inside.left - 1) = omega (arith, c.if-left-eq0.false) in
    let ends = subst (λ (b : Bool). StepsOn g.R.Run.steps c.deref_mut.result.now (Ok b) c.step_on.new.place) c.if-not-branch.true c.in_ok-step_on.ensures in
    let stops = subst (λ (h : Here g.row.R.Denot g.row.R-Fault.Denot). StepsOn g.R.Run.steps h (Ok false) c.step_on.new.place) c.deref_mut.ensures.value ends in
    let told : (h : Here g.row.R.Denot g.row.R-Fault.Denot) → Ended g.row.R.Denot = λ h. record { run = h.run; faults = h.faults } in
    rw (← c.going.view_is) (advances_to_end g.R.Run.steps g.R.AlikeRun.rest g.R.AlikeRun.before g.R.AlikeRun.void g.R.AlikeRun.like g.R.AlikeRun.ends budget most (record { left = c.going.inside.left; here = c.going.inside.place.value }) (c.going.inside.left - 1) c.args.stores.now c.args.front.now c.args.levels.now c.step_on.new.place c.at_end-ended.result spare stops (c.at_end-ended.ensures ∙ ap told c.into_inner.ensures))

pub returns : goal.returns
returns g c = λ budget most.
    let spare : c.going.inside.left ≡ suc (c.going.inside.left - 1) = omega (arith, c.if-left-eq0.false) in
    let steps = subst (λ (b : Bool). StepsOn g.R.Run.steps c.deref_mut.result.now (Ok b) c.step_on.new.place) c.if-not-branch.false c.in_ok-step_on.ensures in
    let goes = subst (λ (h : Here g.row.R.Denot g.row.R-Fault.Denot). StepsOn g.R.Run.steps h (Ok true) c.step_on.new.place) c.deref_mut.ensures.value steps in
    rw (← c.going.view_is) (advances_on g.R.Run.steps g.R.AlikeRun.rest g.R.AlikeRun.before g.R.AlikeRun.void g.R.AlikeRun.like g.R.AlikeRun.ends budget most (record { left = c.going.inside.left; here = c.going.inside.place.value }) (c.going.inside.left - 1) c.args.stores.now c.args.front.now c.reach.new.front c.args.levels.now c.reach.new.levels c.step_on.new.place spare goes (c.in_ok-reach.ensures.reaches budget most))
