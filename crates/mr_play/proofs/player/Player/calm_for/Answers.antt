use Rattle.std.proofs.Common.{◌<◌, ◌≤◌, Bool, Ok, subst, arith}
use Rattle.mr_play.specs.Players.{CalmsOnce}
use Rattle.mr_play.proofs.Calmly.{none_made, one_made, ended, failed, all_made}
use Rattle.mr_play.proofs.Players.{failed_goes}
use Rattle.mr_play.proofs.player.Player.calm_for.Goals as goal

pub loop-init : goal.loop-init
loop-init c = none_made c.args.self.now c.args.k c.args.stop c.args.most

pub returns-in_err-calm_once : goal.returns-in_err-calm_once
returns-in_err-calm_once c =
    let few : c.loop.counter < c.args.most = omega (arith, c.loop-test.true) in
    failed_goes c.args.self.now c.calm_once.new.self _ c.in_err-calm_once.field-0.0 c.from_residual.result
    (failed c.args.self.now c.loop.self c.calm_once.new.self c.args.k c.args.stop c.args.most c.loop.counter c.loop.invariant few c.in_err-calm_once.field-0.0 c.in_err-calm_once.ensures) c.from_residual.ensures.1

pub returns-then-not-branch : goal.returns-then-not-branch
returns-then-not-branch c =
    let few : c.loop.counter < c.args.most = omega (arith, c.loop-test.true) in
    ended c.args.self.now c.loop.self c.calm_once.new.self c.args.k c.args.stop c.args.most c.loop.counter c.loop.invariant few
    (subst (λ (b : Bool). CalmsOnce c.loop.self c.args.k c.args.stop (Ok b) c.calm_once.new.self) c.if-not-branch.true c.in_ok-calm_once.ensures)

pub loop-preserved : goal.loop-preserved
loop-preserved c =
    let few : c.loop.counter < c.args.most = omega (arith, c.loop-test.true) in
    one_made c.args.self.now c.loop.self c.calm_once.new.self c.args.k c.args.stop c.args.most c.loop.counter c.loop.invariant few
    (subst (λ (b : Bool). CalmsOnce c.loop.self c.args.k c.args.stop (Ok b) c.calm_once.new.self) c.if-not-branch.false c.in_ok-calm_once.ensures)

pub returns : goal.returns
returns c =
    let many : c.args.most ≤ c.loop.counter = omega (arith, c.loop-test.false) in
    all_made c.args.self.now c.loop.self c.loop.self c.args.k c.args.stop c.args.most c.loop.counter c.loop.invariant many
