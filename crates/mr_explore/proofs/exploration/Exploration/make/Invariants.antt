use Rattle.std.specs.Option.{option_map}
use Rattle.mr_explore.proofs.Making.{Ran}
use Rattle.mr_explore.proofs.exploration.Exploration.make.Given as goal

-- the first of those that were left were made
abbrev pub invariant-loop : goal.invariant-loop
invariant-loop g l = Ran l.counter (option_map (λ g. g.now) l.fn.goal) l.fn.self l.self
