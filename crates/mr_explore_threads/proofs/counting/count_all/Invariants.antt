use Rattle.std.specs.Option.{option_map}
use Rattle.mr_explore_threads.specs.inner.Counts.{remaining}
use Rattle.mr_explore.proofs.Making.{Ran}
use Rattle.mr_explore_threads.proofs.counting.count_all.Given as goal

-- so many were made
abbrev pub invariant-loop : goal.invariant-loop
invariant-loop l = Ran l.counter (option_map (λ g. g.now) l.goal) (remaining l.fn.walk l.fn.table) (remaining l.walk l.table)
