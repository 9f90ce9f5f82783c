use Rattle.std.specs.Option.{option_map}
use Rattle.mr_explore_threads.proofs.Advancing.{counted}
use Rattle.mr_explore_threads.proofs.counting.count_walk.Goals as goal

pub returns-then-branch-clause-counted : goal.returns-then-branch-clause-counted
returns-then-branch-clause-counted c =
    counted c.args.most (option_map (λ g. g.now) c.args.goal) c.args.walk c.count_all.new.walk c.new-table.result c.count_all.new.table c.new-table.ensures (c.in_ok-count_all.ensures.counted c.if-branch.true)
