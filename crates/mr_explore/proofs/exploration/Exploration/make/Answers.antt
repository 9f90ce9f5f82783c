use Rattle.std.proofs.Common.{◌≡◌, ◌<◌, Bool, Ok, subst, arith}
use Rattle.std.specs.Option.{option_map}
use Rattle.mr_explore.specs.Exploring.{MakesOne}
use Rattle.mr_explore.proofs.Making.{ran_all, ran_failed, ran_in_time, ran_none, ran_one, ran_out}
use Rattle.mr_explore.proofs.exploration.Exploration.make.Goals as goal

pub loop-init : goal.loop-init
loop-init g c = ran_none (option_map (λ g. g.now) c.args.goal) c.args.self.now

pub returns-in_err-make_one : goal.returns-in_err-make_one
returns-in_err-make_one g c =
    let few : c.loop.counter < c.args.runs = omega (arith, c.loop-test.true) in
    ran_failed c.loop.counter c.args.runs c.args.seconds (option_map (λ g. g.now) c.args.goal) c.args.self.now c.loop.self c.make_one.new.self c.in_err-make_one.field-0.0 c.from_residual.result c.loop.invariant few c.in_err-make_one.ensures c.from_residual.ensures.1

pub returns-then-not-branch : goal.returns-then-not-branch
returns-then-not-branch g c =
    let few : c.loop.counter < c.args.runs = omega (arith, c.loop-test.true) in
    ran_out c.loop.counter c.args.runs c.args.seconds (option_map (λ g. g.now) c.args.goal) c.args.self.now c.loop.self c.make_one.new.self c.loop.invariant few
    (subst (λ (b : Bool). MakesOne (option_map (λ g. g.now) c.args.goal) c.loop.self (Ok b) c.make_one.new.self) c.if-not-branch.true c.in_ok-make_one.ensures)

pub returns-then-has_passed : goal.returns-then-has_passed
returns-then-has_passed g c =
    let few : c.loop.counter < c.args.runs = omega (arith, c.loop-test.true) in
    ran_in_time c.loop.counter c.args.runs c.args.seconds (option_map (λ g. g.now) c.args.goal) c.args.self.now c.loop.self c.make_one.new.self c.loop.invariant few
    (subst (λ (b : Bool). MakesOne (option_map (λ g. g.now) c.args.goal) c.loop.self (Ok b) c.make_one.new.self) c.if-not-branch.false c.in_ok-make_one.ensures)
    (c.has_passed.ensures c.if-has_passed.true)

pub loop-preserved : goal.loop-preserved
loop-preserved g c =
    ran_one c.loop.counter (option_map (λ g. g.now) c.args.goal) c.args.self.now c.loop.self c.make_one.new.self c.loop.invariant
    (subst (λ (b : Bool). MakesOne (option_map (λ g. g.now) c.args.goal) c.loop.self (Ok b) c.make_one.new.self) c.if-not-branch.false c.in_ok-make_one.ensures)

pub returns : goal.returns
returns g c =
    let all : c.loop.counter ≡ c.args.runs = omega (arith, c.loop-test.false) in
    ran_all c.loop.counter c.args.runs c.args.seconds (option_map (λ g. g.now) c.args.goal) c.args.self.now c.loop.self c.loop.invariant all
