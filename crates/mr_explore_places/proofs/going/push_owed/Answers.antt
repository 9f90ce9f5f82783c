use Rattle.std.proofs.Common.{◌≡◌, ◌-◌, ◌+◌, ℕ, suc, slice_get, ap, subst, arith}
use Rattle.mr_explore_alike.specs.Leaving.{Here}
use Rattle.mr_explore_places.specs.Places.{if_owed}
use Rattle.mr_explore_places.proofs.Leading.{Owing, owing_first, owing_next, owing_none}
use Rattle.mr_explore_places.proofs.going.push_owed.Goals as goal

pub loop-behind-init : goal.loop-behind-init
loop-behind-init g c = λ budget.
    let all : c.args.place.now.ripe - 0 ≡ c.args.place.now.ripe = omega arith in
    owing_first g.R.Run.steps budget c.args.place.now (c.args.place.now.ripe - 0) c.args.levels.now all

pub loop-behind-preserved : goal.loop-behind-preserved
loop-behind-preserved g c = λ budget.
    let ripe : c.place.inside.ripe ≡ c.args.place.now.ripe = ap (λ (h : Here g.row.R.Denot g.row.R-Fault.Denot). h.ripe) c.place.view_is in
    let more = c.loop-behind-test.true in
    let place : c.place.inside.ripe - 1 - c.loop-behind.behind ≡ c.args.place.now.ripe - (c.loop-behind.behind + 1) = omega (arith, ripe, more) in
    let last : c.args.place.now.ripe - c.loop-behind.behind ≡ suc (c.args.place.now.ripe - (c.loop-behind.behind + 1)) = omega (arith, ripe, more) in
    let is = subst (λ (n : ℕ). c.in_ok-child.child ≡ if_owed g.R.Run.steps c.args.place.now n (slice_get c.args.place.now.owed n)) place c.in_ok-child.ensures.is in
    owing_next g.R.Run.steps budget c.args.place.now (c.args.place.now.ripe - (c.loop-behind.behind + 1)) (c.args.place.now.ripe - c.loop-behind.behind) (Owing g.R.Run.steps budget c.args.place.now c.args.place.now.ripe c.args.levels.now) c.loop-behind.levels c.push_begun.new.levels c.in_ok-child.child last is c.in_ok-push_begun.ensures.pushes (c.loop-behind.invariant budget)

pub returns-clause-leads : goal.returns-clause-leads
returns-clause-leads g c = λ budget.
    let ripe : c.place.inside.ripe ≡ c.args.place.now.ripe = ap (λ (h : Here g.row.R.Denot g.row.R-Fault.Denot). h.ripe) c.place.view_is in
    let all = c.loop-behind-test.false in
    let none : c.args.place.now.ripe - c.loop-behind.behind ≡ 0 = omega (arith, ripe, all) in
    owing_none g.R.Run.steps budget c.args.place.now (c.args.place.now.ripe - c.loop-behind.behind) (Owing g.R.Run.steps budget c.args.place.now c.args.place.now.ripe c.args.levels.now) c.loop-behind.levels none (c.loop-behind.invariant budget)
