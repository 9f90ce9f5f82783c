use Rattle.std.proofs.Common.{◌≡◌, ◌-◌, ◌∷◌, suc, Bool, Ok, inl, inr, refl, ap, subst, ◌∙◌, arith}
use Rattle.mr_explore_search.specs.Steps.{GoesOn}
use Rattle.mr_explore_search.specs.inner.Stack.{opened}
use Rattle.mr_explore_search.proofs.Turning.{further_failed}
use Rattle.mr_explore_search.proofs.turn.go_further.Goals as goal

pub returns-then-left-eq0 : goal.returns-then-left-eq0
returns-then-left-eq0 g c =
    let none : c.args.level.left ≡ 0 = omega (arith, c.if-left-eq0.true) in
    inr (c.args.level.run, inl (none, refl), c.run_if.ensures, refl)

pub returns-in_err-go_on : goal.returns-in_err-go_on
returns-in_err-go_on g c =
    let more : c.args.level.left ≡ suc (c.args.level.left - 1) = omega (arith, c.if-left-eq0.false) in
    further_failed g.R.Run.steps 0 c.args.level c.args.levels.now c.args.levels.now (c.args.level.left - 1) c.in_err-go_on.field-0.0 c.go_on.new.self c.from_residual.result more refl c.in_err-go_on.ensures c.from_residual.ensures.1

pub returns-then-branch : goal.returns-then-branch
returns-then-branch g c =
    let more : c.args.level.left ≡ suc (c.args.level.left - 1) = omega (arith, c.if-left-eq0.false) in
    inl ((c.args.level.left - 1, c.go_on.new.self, more, subst (λ (b : Bool). GoesOn (g.R.Run.steps.onward c.args.level.run) (Ok b) c.go_on.new.self) c.if-branch.true c.in_ok-go_on.ensures, c.in_ok-open.ensures.opens ∙ ap (λ r. opened g.R.Run.steps c.args.level.chances r (c.args.level.left - 1) c.go_on.new.self ∷ c.args.levels.now) c.len-ripe.ensures), refl)

pub returns : goal.returns
returns g c =
    let more : c.args.level.left ≡ suc (c.args.level.left - 1) = omega (arith, c.if-left-eq0.false) in
    inr (c.go_on.new.self, inr (c.args.level.left - 1, more, subst (λ (b : Bool). GoesOn (g.R.Run.steps.onward c.args.level.run) (Ok b) c.go_on.new.self) c.if-branch.false c.in_ok-go_on.ensures), c.run_if-else-branch.ensures, refl)
