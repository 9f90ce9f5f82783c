use Rattle.std.proofs.Common.{◌≡◌, ◌≤◌, ◌⊎◌, ℕ, ◌+◌, suc, Bool, subst, arith}
use Rattle.mr_explore_alike.specs.Leaving.{Here}
use Rattle.mr_explore_places.specs.Places.{IsWithin}
use Rattle.mr_explore_places.specs.Going.{GoesTo}
use Rattle.mr_explore_places.specs.Keeping.{IsHeld}
use Rattle.mr_explore_places.proofs.Within.{IsAt}
use Rattle.mr_explore_places.proofs.Treading.{goes_at, kept_next, kept_so_far}
use Rattle.mr_explore_places.proofs.trail.keep_places.Goals as goal

pub returns-then-not-branch-clause-keeps : goal.returns-then-not-branch-clause-keeps
returns-then-not-branch-clause-keeps g c =
    let less : suc c.loop.counter ≤ suc c.args.level.now.beyond = omega (arith, c.loop-test.true, c.loop.auto.counter-end) in
    λ budget. kept_so_far g.R.Run.steps (suc c.loop.counter) (suc c.args.level.now.beyond) c.args.level.now.place (IsHeld c.args.stores.now) (IsHeld c.loop.stores) less c.loop.invariant.1

pub loop-preserved : goal.loop-preserved
loop-preserved g c =
    let goes = subst (λ (b : Bool). GoesTo g.R.Run.steps c.loop.place b c.goes_on.new.place) c.if-not-branch.false c.in_ok-goes_on.ensures.goes in
    let at = goes_at g.R.Run.steps c.loop.counter c.args.level.now.place c.loop.place c.goes_on.new.place c.loop.invariant.0 goes in
    let same : suc c.loop.counter ≡ c.loop.counter + 1 = omega arith in
    subst (λ (n : ℕ). IsAt g.R.Run.steps n c.args.level.now.place c.goes_on.new.place × ((x : Here g.row.R.Denot g.row.R-Fault.Denot) → IsHeld c.keep_made-in-loop.new.stores x → IsWithin g.R.Run.steps (λ h. h ≡ x) (suc n) c.args.level.now.place ⊎ IsHeld c.args.stores.now x)) same
    (at, kept_next g.R.Run.steps c.loop.counter c.args.level.now.place c.goes_on.new.place (IsHeld c.args.stores.now) (IsHeld c.loop.stores) (IsHeld c.keep_made-in-loop.new.stores) at c.loop.invariant.1 c.in_ok-keep_made-2.ensures.keeps)
