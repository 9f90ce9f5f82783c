-- A search as its callers see it (our own profile).
use Rattle.std.specs.Prelude.{◌≡◌, ℕ, Bool, List, [], ◌∷◌, ◌++◌, Option, Some, None, Result, Ok, Err}
use Rattle.mr_explore_search.specs.Steps.{Steps}
use Rattle.mr_explore_search.specs.Runs.{Found, Run}
use Rattle.mr_explore_search.specs.Laws.{IsOneBy}
use Rattle.mr_explore_search.specs.declared.ended.Ended.{Ended}
use Rattle.mr_explore_search.specs.declared.fault.WalkFault.{WalkFault}
use Rattle.mr_explore_alike.specs.Leaving.{Here}
use Rattle.mr_explore_places.specs.Places.{IsOnItsWay, beginning}
use Rattle.mr_explore_places.specs.Fronts.{Underway}
use Rattle.mr_explore_places.specs.Levels.{LeadsTo}
use Rattle.mr_explore_places.specs.Going.{Stops}
use Rattle.mr_explore_places.specs.Searching.{AreKnownOf, HasDone, HasSearched}
use Rattle.mr_explore_places.specs.declared.bounds.Bounds.{Bounds}
use Rattle.mr_explore_places.specs.declared.level.Level.{Level}
use Rattle.mr_explore_places.specs.declared.level.Level.TheVariants as level
use Rattle.mr_explore_places.specs.declared.part.Next.{Next}
use Rattle.mr_explore_places.specs.declared.part.Next.TheVariants as next
use Rattle.mr_explore_places.specs.declared.stores.Stores.{Stores}

-- how far it goes, the places that it keeps, the runs that go on side by side, what is left to it, and why it has stopped, if it has
pub record State (S F : Type 0) : Type 0 where
  pub bounds : Bounds
  pub kept : Stores S F
  pub going : List (Underway S F)
  pub left : List (Level S F)
  pub fault : Option WalkFault

-- it has stopped with this fault
abbrev pub HasStopped : {S F : Type 0} → State S F → WalkFault → Type 0
HasStopped s f = s.fault ≡ Some f

-- why a call was refused, if it was
abbrev pub fault_of : {A : Type 0} → Result A WalkFault → Option WalkFault
fault_of (Ok x) = None
fault_of (Err f) = Some f

-- what a search from this run has before it
abbrev pub whole : {S F : Type 0} → S → List (Level S F)
whole first = level.Begin (beginning first) ∷ []

-- all places to which the part leads come of the first run
abbrev pub IsPart : {S F : Type 0} → Steps S F → Bounds → (first : S) → Level S F → Type 0
IsPart {S} {F} steps bounds first l = (x : Here S F) → LeadsTo steps bounds.faults l x → IsOnItsWay steps bounds.faults bounds.steps first bounds.steps x

module _ {S F : Type 0} (steps : Steps S F) (rest : S → ℕ) (before : S → S → Bool) (void : S → Bool) (like : S → List F → S → List F → Type 0) (ends : S → S → Type 0) where
  -- A search over these parts of the runs that come of the first one has found these so far, the last one first. Other parts are given away: others search them.
  abbrev pub HasFound : Bounds → (first : S) → (parts given : List (Level S F)) → List (Found S) → State S F → Type 0
  HasFound bounds first parts given found s = (s.bounds ≡ bounds) × (s.fault ≡ None) × HasSearched steps rest before void like ends bounds.faults bounds.steps first parts s.kept s.going (s.left ++ given) found

  -- all that comes of these parts was found, but for what is given away
  abbrev pub IsDone : Bounds → (first : S) → (parts given : List (Level S F)) → List (Found S) → Type 0
  IsDone bounds first parts given found = (made : List (Here S F)) × (known : List (Here S F)) × HasDone steps rest before void like ends bounds.faults bounds.steps first parts known [] [] given made found × AreKnownOf steps rest before void like ends bounds.faults bounds.steps parts known

  -- One more run was found, and it is one of the definition; or no run, and then all that is needed was made. Where it is told that a limit would be passed, a run of the
  -- definition would pass it. Behind a fault it stays at it.
  abbrev pub Answers : Bounds → (first : S) → (parts given : List (Level S F)) → List (Found S) → Result (Option (Ended S)) WalkFault → State S F → Type 0
  Answers bounds first parts given found (Ok (Some e)) new = HasFound bounds first parts given (Run e.faults e.run ∷ found) new × IsOneBy steps bounds.steps bounds.faults first (Run e.faults e.run)
  Answers bounds first parts given found (Ok None) new = HasFound bounds first parts given found new × IsDone bounds first parts given found
  Answers bounds first parts given found (Err f) new = HasStopped new f × Stops steps bounds.faults bounds.steps first f

  -- The same, where a part may come next: it is given away.
  abbrev pub AnswersApart : Bounds → (first : S) → (parts given : List (Level S F)) → List (Found S) → Result (Option (Next S F)) WalkFault → State S F → Type 0
  AnswersApart bounds first parts given found (Ok (Some (next.Run e))) new = HasFound bounds first parts given (Run e.faults e.run ∷ found) new × IsOneBy steps bounds.steps bounds.faults first (Run e.faults e.run)
  AnswersApart bounds first parts given found (Ok (Some (next.Part l))) new = HasFound bounds first parts (l ∷ given) found new × IsPart steps bounds first l
  AnswersApart bounds first parts given found (Ok None) new = HasFound bounds first parts given found new × IsDone bounds first parts given found
  AnswersApart bounds first parts given found (Err f) new = HasStopped new f × Stops steps bounds.faults bounds.steps first f
