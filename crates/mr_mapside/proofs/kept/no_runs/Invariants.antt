use Rattle.std.proofs.Common.{◌≡◌, [], length}
use Rattle.std.specs.List.{AllByRecursion}
use Rattle.mr_mapside.proofs.kept.no_runs.Given as goal

abbrev pub invariant-loop : goal.invariant-loop
invariant-loop l = record { many : length l.kept.items ≡ l.counter; empty : AllByRecursion (λ runs. runs ≡ []) l.kept.items }
