use Rattle.std.specs.Option.{option_map}
use Rattle.mr_explore_threads.specs.inner.Counting.{Advances}
use Rattle.mr_explore_threads.proofs.divided.Divided.make.Given as goal

-- the first of those that were left were made
abbrev pub invariant-loop : goal.invariant-loop
invariant-loop g l = Advances l.most (option_map (λ g. g.now) l.fn.goal) l.fn.self l.self
