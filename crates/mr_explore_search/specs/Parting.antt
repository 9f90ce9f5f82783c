-- What is left of a walk, in parts.
use Rattle.std.specs.Prelude.{List, ◌++◌}
use Rattle.std.specs.List.{flat_map}
use Rattle.mr_explore_search.specs.Runs.{Found}

-- the runs of each part, and those of the rest
pub record Parted (S : Type 0) : Type 0 where
  pub parts : List (List (Found S))
  pub rest : List (Found S)

-- all of them, in their order
abbrev pub whole : {S : Type 0} → Parted S → List (Found S)
whole p = flat_map (λ runs. runs) p.parts ++ p.rest
