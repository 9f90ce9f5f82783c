use Rattle.std.proofs.Common.{◌<◌, ◌≤◌, Bool, Ok, subst, arith}
use Rattle.mr_explore_search.specs.Steps.{GoesOn}
use Rattle.mr_explore_search.proofs.Finishing.{ended, finish_failed, made_all, went}
use Rattle.mr_explore_search.proofs.turn.finish.Goals as goal

pub returns-in_err-go_on : goal.returns-in_err-go_on
returns-in_err-go_on g c =
    let few : c.loop.counter < c.args.level.left = omega (arith, c.loop-test.true) in
    finish_failed g.R.Run.steps c.args.level.chances.total c.args.level.left c.args.level.left c.loop.counter c.args.level.run c.loop.run c.go_on.new.self c.in_err-go_on.field-0.0 c.from_residual.result c.loop.invariant few c.in_err-go_on.ensures c.from_residual.ensures.1

pub returns-then-not-branch : goal.returns-then-not-branch
returns-then-not-branch g c =
    let few : c.loop.counter < c.args.level.left = omega (arith, c.loop-test.true) in
    ended g.R.Run.steps c.args.level.chances.total c.args.level.left c.args.level.left c.loop.counter c.args.level.run c.loop.run c.go_on.new.self c.loop.invariant few
    (subst (λ (b : Bool). GoesOn (g.R.Run.steps.onward c.loop.run) (Ok b) c.go_on.new.self) c.if-not-branch.true c.in_ok-go_on.ensures)

pub loop-preserved : goal.loop-preserved
loop-preserved g c =
    let few : c.loop.counter < c.args.level.left = omega (arith, c.loop-test.true) in
    went g.R.Run.steps c.args.level.chances.total c.args.level.left c.args.level.left c.loop.counter c.args.level.run c.loop.run c.go_on.new.self c.loop.invariant few
    (subst (λ (b : Bool). GoesOn (g.R.Run.steps.onward c.loop.run) (Ok b) c.go_on.new.self) c.if-not-branch.false c.in_ok-go_on.ensures)

pub returns : goal.returns
returns g c =
    let many : c.args.level.left ≤ c.loop.counter = omega (arith, c.loop-test.false) in
    made_all g.R.Run.steps c.args.level.chances.total c.args.level.left c.args.level.left c.loop.counter c.args.level.run c.loop.run c.loop.invariant many
