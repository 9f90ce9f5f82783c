-- What a search is on its way to, with one run more.
use Rattle.std.proofs.Common.{◌≡◌, ℕ, Bool, List, [], ◌∷◌, Option, Some, None, Result, Ok, Err, IfErr, IsErrAnd, sym, subst}
use Rattle.std.proofs.lemmas.Result.{err_from_is_err_and}
use Rattle.mr_world_events.specs.declared.event.Event.{Event}
use Rattle.mr_explore_search.specs.Steps.{Steps}
use Rattle.mr_explore_search.specs.Runs.{Found, Run}
use Rattle.mr_explore_search.specs.declared.ended.Ended.{Ended}
use Rattle.mr_explore_search.specs.declared.fault.WalkFault.{WalkFault}
use Rattle.mr_explore_places.specs.Going.{Stops}
use Rattle.mr_explore_places.specs.State.{Answers, HasFound, State, whole}
use Rattle.mr_explore_places.specs.declared.bounds.Bounds.{Bounds}
use Rattle.mr_explore_places.specs.declared.level.Level.{Level}
use Rattle.mr_explore_ends.specs.Outcomes.{Outcome}
use Rattle.mr_explore_least.specs.Table.{Table, empty}
use Rattle.mr_explore_noted.specs.Noting.{Tells, noted_run}
use Rattle.mr_explore_noted.specs.Searched.{HasAll, HasSearched, IsOnTheWay}
use Rattle.mr_explore_noted.proofs.Telling.{tells_none, told_more}

-- what is so of a fault is so where it is handed on
pub handed_on : {A : Type 0} (P : WalkFault → Type 0) (x : WalkFault) (r : Result A WalkFault) → IsErrAnd r (λ y. y ≡ x) → P x → IfErr r P
handed_on {A} P x r failed p = let z = err_from_is_err_and r failed in subst (λ (y : Result A WalkFault). IfErr y P) (sym z.1) (subst P (sym z.2) p)

module _ {S F : Type 0} (steps : Steps S F) (rest : S → ℕ) (before : S → S → Bool) (void : S → Bool) (like : S → List F → S → List F → Type 0) (ends : S → S → Type 0) (end : S → Outcome) (events : S → List Event) where
  module _ (bounds : Bounds) (first : S) (parts given : List (Level S F)) where
    abbrev Found-so-far : List (Found S) → State S F → Type 0
    Found-so-far found s = HasFound steps rest before void like ends bounds first parts given found s

    abbrev OnTheWay : State S F → Table → Type 0
    OnTheWay s t = IsOnTheWay steps rest before void like ends end events bounds first parts given s t

    abbrev Searched : State S F → Table → Type 0
    Searched s t = HasSearched steps rest before void like ends end events bounds first parts given s t

    -- what the search answers of each list of runs that it may have found
    abbrev pub Answered : State S F → Option (Ended S) → State S F → Type 0
    Answered s o t = (found : List (Found S)) → Found-so-far found s → Answers steps rest before void like ends bounds first parts given found (Ok o) t

    pub on_the_way : (s new : State S F) (old table : Table) (e : Ended S) → Answered s (Some e) new → table ≡ noted_run void end events e.faults e.run old → OnTheWay s old → OnTheWay new table
    on_the_way s new old table e answers is h =
        let more = told_more void end events e.faults e.run h.0 old h.2 in
        (Run e.faults e.run ∷ h.0, (answers h.0 h.1).0, subst (Tells void end events (Run e.faults e.run ∷ h.0)) (sym is) more)

    pub searched : (s new : State S F) (table : Table) → Answered s None new → OnTheWay s table → Searched new table
    searched s new table answers h = let a = answers h.0 h.1 in (h.0, a.0, a.1, h.2)

    -- it stops as the search does
    pub stopped : (x : WalkFault) (r : Result Bool WalkFault) (s new : State S F) (old : Table) → ((found : List (Found S)) → Found-so-far found s → Answers steps rest before void like ends bounds first parts given found (Err x) new)
        → IsErrAnd r (λ y. y ≡ x) → OnTheWay s old → IfErr r (Stops steps bounds.faults bounds.steps first)
    stopped x r s new old answers failed h = handed_on (Stops steps bounds.faults bounds.steps first) x r failed (answers h.0 h.1).1

  -- of each content that was held before: it is still on the way
  abbrev pub StaysOnTheWay : State S F → Table → State S F → Table → Type 0
  StaysOnTheWay old old-table new table = (bounds : Bounds) (first : S) (parts given : List (Level S F)) → IsOnTheWay steps rest before void like ends end events bounds first parts given old old-table
      → IsOnTheWay steps rest before void like ends end events bounds first parts given new table

  -- a search that begins
  pub begins : (bounds : Bounds) (first : S) (s : State S F) (table : Table) → HasFound steps rest before void like ends bounds first (whole first) [] [] s → table ≡ empty
      → IsOnTheWay steps rest before void like ends end events bounds first (whole first) [] s table
  begins bounds first s table h is = ([], h, subst (Tells void end events []) (sym is) (tells_none void end events))

  -- one that is at its end
  pub has_all : (bounds : Bounds) (first : S) (parts given : List (Level S F)) (s : State S F) (table : Table) → HasSearched steps rest before void like ends end events bounds first parts given s table
      → HasAll steps rest before void like ends end events bounds first parts given table
  has_all bounds first parts given s table h = (h.0, h.2, h.3)
