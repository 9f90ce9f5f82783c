use Rattle.std.specs.List.{All}
use Rattle.std.specs.Option.{option_map}
use Rattle.mr_explore_threads.specs.inner.Counting.{IsCountedAt}
use Rattle.mr_explore_threads.proofs.counting.count_some.Given as goal

-- those so far are counted
abbrev pub invariant-loop : goal.invariant-loop
invariant-loop l = All (IsCountedAt l.most (option_map (λ g. g.now) l.goal) l.parts) l.all.items
