use Rattle.std.proofs.Common.{◌≤◌, sym, ◌∙◌, arith}
use Rattle.std.specs.Option.{option_map}
use Rattle.mr_explore_threads.specs.inner.Counts.{remaining}
use Rattle.mr_explore_threads.proofs.Advancing.{counts_all}
use Rattle.mr_explore.proofs.Making.{ran_none, ran_one}
use Rattle.mr_explore_threads.proofs.counting.count_all.Goals as goal

pub loop-init : goal.loop-init
loop-init c = ran_none (option_map (λ g. g.now) c.args.goal) (remaining c.args.walk.now c.args.table.now)

pub returns-then-is_done-clause-counted : goal.returns-then-is_done-clause-counted
returns-then-is_done-clause-counted c = λ all.
    let few : c.loop.counter ≤ c.args.most = omega (arith, c.loop-test.true) in
    counts_all c.loop.counter c.args.most (option_map (λ g. g.now) c.args.goal) (remaining c.args.walk.now c.args.table.now) (remaining c.loop.walk c.loop.table) c.loop.invariant few (sym c.is_done.ensures ∙ c.if-is_done.true)

pub loop-preserved : goal.loop-preserved
loop-preserved c =
    ran_one c.loop.counter (option_map (λ g. g.now) c.args.goal) (remaining c.args.walk.now c.args.table.now) (remaining c.loop.walk c.loop.table) (remaining c.count_one.new.walk c.count_one.new.table) c.loop.invariant (c.in_ok-count_one.ensures.made c.if-not-branch.false)

pub returns-clause-counted : goal.returns-clause-counted
returns-clause-counted c = λ all.
    let few : c.loop.counter ≤ c.args.most = omega (arith, c.loop-test.false) in
    counts_all c.loop.counter c.args.most (option_map (λ g. g.now) c.args.goal) (remaining c.args.walk.now c.args.table.now) (remaining c.loop.walk c.loop.table) c.loop.invariant few (sym c.is_done-2.ensures ∙ all)
