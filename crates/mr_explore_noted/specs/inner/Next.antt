-- What is so behind one run more.
use Rattle.std.specs.Prelude.{ℕ, Bool, true, false, List}
use Rattle.mr_world_events.specs.declared.event.Event.{Event}
use Rattle.mr_explore_search.specs.Steps.{Steps}
use Rattle.mr_explore_places.specs.State.{State}
use Rattle.mr_explore_places.specs.declared.bounds.Bounds.{Bounds}
use Rattle.mr_explore_places.specs.declared.level.Level.{Level}
use Rattle.mr_explore_ends.specs.Outcomes.{Outcome}
use Rattle.mr_explore_least.specs.Table.{Table}
use Rattle.mr_explore_noted.specs.Searched.{HasSearched, IsOnTheWay}

module _ {S F : Type 0} (steps : Steps S F) (rest : S → ℕ) (before : S → S → Bool) (void : S → Bool) (like : S → List F → S → List F → Type 0) (ends : S → S → Type 0) (end : S → Outcome) (events : S → List Event) where
  -- one run more is noted; or there is none, and all was found
  abbrev pub NotesNext : Bounds → (first : S) → (parts given : List (Level S F)) → Bool → State S F → Table → Type 0
  NotesNext bounds first parts given true s t = IsOnTheWay steps rest before void like ends end events bounds first parts given s t
  NotesNext bounds first parts given false s t = HasSearched steps rest before void like ends end events bounds first parts given s t
