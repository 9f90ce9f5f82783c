-- Parts that are taken off what a walk has before it.
use Rattle.std.specs.Prelude.{◌≡◌, ◌<◌, ℕ, Bool, true, false, List, ◌++◌, map, Option, Some, None}
use Rattle.std.specs.List.{flat_map}
use Rattle.mr_explore_search.specs.Steps.{Steps}
use Rattle.mr_explore_search.specs.Runs.{Found}
use Rattle.mr_explore_search.specs.declared.level.Level.{Level}
use Rattle.mr_explore_search.specs.inner.Stack.{left_of, stack_left, stack_turns}

module _ {S F : Type 0} (steps : Steps S F) (most : ℕ) where
  -- what is left of parts, and of the levels behind them
  abbrev pub all_left : List (Level S F) → List (Level S F) → List (Found S)
  all_left parts ls = flat_map (λ runs. runs) (map (left_of steps most) parts) ++ stack_left steps most ls

  -- the same of one part, if there is one
  abbrev pub with_part : Option (Level S F) → List (Level S F) → List (Found S)
  with_part None ls = stack_left steps most ls
  with_part (Some l) ls = left_of steps most l ++ stack_left steps most ls

  -- nothing was made: there is less to be done, or it can't be done
  abbrev pub Divided : List (Level S F) → Bool → List (Level S F) → Type 0
  Divided old true new = (stack_left steps most old ≡ stack_left steps most new) × (stack_turns steps most new < stack_turns steps most old)
  Divided old false new = stack_left steps most old ≡ stack_left steps most new
