-- What is known where a search has found all (our own profile).
use Rattle.std.specs.Prelude.{◌≡◌, ◌<◌, ◌⊎◌, ℕ, Bool, false, List, [], ◌∷◌, ◌++◌}
use Rattle.mr_explore_search.specs.Steps.{Steps}
use Rattle.mr_explore_search.specs.Runs.{Found, Run}
use Rattle.mr_explore_search.specs.Laws.{In, IsOneBy}
use Rattle.mr_explore_alike.specs.Likens.{Likens}
use Rattle.mr_explore_alike.specs.Leaving.{IsFound}
use Rattle.mr_explore_places.specs.State.{IsDone, whole}
use Rattle.mr_explore_places.specs.declared.bounds.Bounds.{Bounds}
use Rattle.mr_explore_places.specs.declared.level.Level.{Level}

module _ {S F : Type 0} (steps : Steps S F) (rest : S → ℕ) (before : S → S → Bool) (void : S → Bool) (like : S → List F → S → List F → Type 0) (ends : S → S → Type 0) where
  -- Where runs that are like each other go on alike, of all runs by as many faults as the bounds say each one was found, or an earlier one that came to the same end.
  abbrev pub EachEndIsFound : Type 0
  EachEndIsFound = (bounds : Bounds) (first : S) (found : List (Found S)) → Likens steps rest before void like ends bounds.steps → like first [] first [] → rest first < bounds.steps
      → IsDone steps rest before void like ends bounds first (whole first) [] found → (k : ℕ) (s : S) → IsOneBy steps bounds.steps bounds.faults first (Run k s) → void s ≡ false
      → IsFound steps rest before void like ends found k s

  -- Where a part is done that was given away, what was found of it is put to what was found of the rest.
  abbrev pub PartsAreJoined : Type 0
  PartsAreJoined = (bounds : Bounds) (first : S) (parts given : List (Level S F)) (part : Level S F) (found more : List (Found S)) → IsDone steps rest before void like ends bounds first parts (part ∷ given) found
      → IsDone steps rest before void like ends bounds first (part ∷ []) [] more → IsDone steps rest before void like ends bounds first parts given (more ++ found)

  -- the parts are those of the first or of the second list
  abbrev pub AreThoseOf : (parts some others : List (Level S F)) → Type 0
  AreThoseOf parts some others = (l : Level S F) → In l parts → In l some ⊎ In l others

  -- Where some of the parts are done that were given away, what was found of them is put to what was found of the rest. Others are still given away.
  abbrev pub GivenPartsAreJoined : Type 0
  GivenPartsAreJoined = (bounds : Bounds) (first : S) (parts given some others : List (Level S F)) (found more : List (Found S)) → AreThoseOf given some others → AreThoseOf others given [] → AreThoseOf some given []
      → IsDone steps rest before void like ends bounds first parts given found → IsDone steps rest before void like ends bounds first some [] more → IsDone steps rest before void like ends bounds first parts others (more ++ found)
