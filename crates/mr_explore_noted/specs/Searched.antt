-- What a table tells of a search (our own profile).
use Rattle.std.specs.Prelude.{ℕ, Bool, List}
use Rattle.mr_world_events.specs.declared.event.Event.{Event}
use Rattle.mr_explore_search.specs.Steps.{Steps}
use Rattle.mr_explore_search.specs.Runs.{Found}
use Rattle.mr_explore_places.specs.State.{HasFound, IsDone, State}
use Rattle.mr_explore_places.specs.declared.bounds.Bounds.{Bounds}
use Rattle.mr_explore_places.specs.declared.level.Level.{Level}
use Rattle.mr_explore_ends.specs.Outcomes.{Outcome}
use Rattle.mr_explore_least.specs.Table.{Table}
use Rattle.mr_explore_noted.specs.Noting.{Tells}

module _ {S F : Type 0} (steps : Steps S F) (rest : S → ℕ) (before : S → S → Bool) (void : S → Bool) (like : S → List F → S → List F → Type 0) (ends : S → S → Type 0) (end : S → Outcome) (events : S → List Event) where
  -- a search over these parts found so far what the table tells; other parts are given away
  abbrev pub IsOnTheWay : Bounds → (first : S) → (parts given : List (Level S F)) → State S F → Table → Type 0
  IsOnTheWay bounds first parts given s t = (found : List (Found S)) × HasFound steps rest before void like ends bounds first parts given found s × Tells void end events found t

  -- all that comes of these parts was found, but for what is given away, and the table tells just that
  abbrev pub HasAll : Bounds → (first : S) → (parts given : List (Level S F)) → Table → Type 0
  HasAll bounds first parts given t = (found : List (Found S)) × IsDone steps rest before void like ends bounds first parts given found × Tells void end events found t

  -- the same, of a search that may go on with other parts
  abbrev pub HasSearched : Bounds → (first : S) → (parts given : List (Level S F)) → State S F → Table → Type 0
  HasSearched bounds first parts given s t = (found : List (Found S)) × HasFound steps rest before void like ends bounds first parts given found s × IsDone steps rest before void like ends bounds first parts given found × Tells void end events found t
