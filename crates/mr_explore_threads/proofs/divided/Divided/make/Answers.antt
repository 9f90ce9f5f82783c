use Rattle.std.proofs.Common.{◌≤◌, ◌-◌, ◌^◌, arith}
use Rattle.std.specs.Option.{option_map}
use Rattle.mr_explore_threads.proofs.Advancing.{advances_on, none_yet}
use Rattle.mr_explore_threads.proofs.divided.Divided.make.Goals as goal

pub loop-init : goal.loop-init
loop-init g c = none_yet c.args.most (option_map (λ g. g.now) c.args.goal) c.args.self.now

pub loop-preserved : goal.loop-preserved
loop-preserved g c =
    let small : c.args.most ≤ 2 ^ 64 - 1 = let fits = c.ranges.most.fits in omega (arith, fits) in
    advances_on c.args.most (option_map (λ g. g.now) c.args.goal) c.args.self.now c.loop.self c.make_some.new.self small c.loop.invariant c.in_ok-make_some.ensures.advances

pub returns-then-not-branch-clause-advances : goal.returns-then-not-branch-clause-advances
returns-then-not-branch-clause-advances g c =
    let small : c.args.most ≤ 2 ^ 64 - 1 = let fits = c.ranges.most.fits in omega (arith, fits) in
    advances_on c.args.most (option_map (λ g. g.now) c.args.goal) c.args.self.now c.loop.self c.make_some.new.self small c.loop.invariant c.in_ok-make_some.ensures.advances
