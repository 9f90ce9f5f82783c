-- What holds of a table that tells of runs (our own profile).
use Rattle.std.specs.Prelude.{◌≡◌, ◌<◌, ℕ, Bool, true, false, List, [], ◌++◌}
use Rattle.mr_world_events.specs.declared.event.Event.{Event}
use Rattle.mr_explore_search.specs.Steps.{Goes, Ends, Steps}
use Rattle.mr_explore_search.specs.Runs.{Found}
use Rattle.mr_explore_alike.specs.Likens.{Likens}
use Rattle.mr_explore_places.specs.Laws.{AreThoseOf}
use Rattle.mr_explore_places.specs.State.{IsDone, whole}
use Rattle.mr_explore_places.specs.declared.bounds.Bounds.{Bounds}
use Rattle.mr_explore_places.specs.declared.level.Level.{Level}
use Rattle.mr_script_order.specs.Order.{sooner}
use Rattle.mr_explore_ends.specs.Outcomes.{Outcome}
use Rattle.mr_explore_least.specs.Laws.{AreLeastOf, EachHasOneEnd, Has, HasEnd}
use Rattle.mr_explore_least.specs.Table.{Arrival, Table, earlier, joined}
use Rattle.mr_explore_noted.specs.Noting.{CameBy, CameOf, OnePassesBy, Tells}
use Rattle.mr_explore_noted.specs.Searched.{HasAll}

-- ---- of tables alone

module _ {S : Type 0} (void : S → Bool) (end : S → Outcome) (events : S → List Event) where
  -- The rows of a table are the least of the runs of which it tells.
  abbrev pub RowsAreLeastFound : Type 0
  RowsAreLeastFound = (found : List (Found S)) (t : Table) → Tells void end events found t → EachHasOneEnd (CameOf void end events found) → AreLeastOf (CameOf void end events found) t.rows

  -- One of the runs that were found stands for a run: it came to the same end, and that one does not come before it.
  pub record IsStoodFor (found : List (Found S)) (a : Arrival) : Type 0 where
    pub by : Arrival
    pub came : CameOf void end events found by
    pub same : by.end ≡ a.end
    pub no_later : earlier a by ≡ false

  -- A table has the end of each run for which one of its runs stands, and that run does not come before its row.
  abbrev pub WhatIsStoodForIsTold : Type 0
  WhatIsStoodForIsTold = (found : List (Found S)) (t : Table) (a : Arrival) → Tells void end events found t → EachHasOneEnd (CameOf void end events found) → IsStoodFor found a
      → HasEnd t.rows a.end × ((r : Arrival) → Has t.rows r → a.end ≡ r.end → earlier a r ≡ false)

  -- A table to which the runs of another one came tells of the runs of both.
  abbrev pub JoinedTellsBoth : Type 0
  JoinedTellsBoth = (found more : List (Found S)) (t u : Table) → Tells void end events found t → Tells void end events more u → EachHasOneEnd (CameOf void end events (more ++ found)) → Tells void end events (more ++ found) (joined t u)

-- ---- of searches

module _ {S F : Type 0} (steps : Steps S F) (rest : S → ℕ) (before : S → S → Bool) (void : S → Bool) (like : S → List F → S → List F → Type 0) (ends : S → S → Type 0) (end : S → Outcome) (events : S → List Event) where
  -- Each run that a search found is one of the definition.
  abbrev pub FoundCame : Type 0
  FoundCame = (bounds : Bounds) (first : S) (parts given : List (Level S F)) (found : List (Found S)) (a : Arrival) → IsDone steps rest before void like ends bounds first parts given found → CameOf void end events found a
      → CameBy void end events steps bounds first a

  -- Where a table says that a run would pass a limit, one of the definition would.
  abbrev pub LimitIsOfOne : Type 0
  LimitIsOfOne = (bounds : Bounds) (first : S) (parts given : List (Level S F)) (t : Table) → HasAll steps rest before void like ends end events bounds first parts given t → t.past_limit ≡ true → OnePassesBy void end events steps bounds first

  -- Where another search has found all of some of the parts that were given away, the two tables together tell of all, but for what comes of the others.
  abbrev pub JoinedHasAll : Type 0
  JoinedHasAll = (bounds : Bounds) (first : S) (parts given some others : List (Level S F)) (t u : Table) → EachHasOneEnd (CameBy void end events steps bounds first) → AreThoseOf steps rest before void like ends given some others → AreThoseOf steps rest before void like ends others given []
      → AreThoseOf steps rest before void like ends some given []
      → HasAll steps rest before void like ends end events bounds first parts given t → HasAll steps rest before void like ends end events bounds first some [] u
      → HasAll steps rest before void like ends end events bounds first parts others (joined t u)

  -- What runs say of each other is so of what is noted of them: two that have one end came to the same, and scripts are in the order of mr_script_order. A run is not void by going on.
  pub record SaysWhatIsNoted : Type 0 where
    pub one_end : (s t : S) → ends s t → end s ≡ end t
    pub in_order : (s t : S) → before s t ≡ true → sooner (events s) (events t) ≡ true
    pub goes : (s t : S) → void s ≡ false → steps.onward s ≡ Goes t → void t ≡ false
    pub stops : (s t : S) → void s ≡ false → steps.onward s ≡ Ends t → void t ≡ false

  -- Where all was found, and runs that are like each other go on alike, the rows are the least of all runs of the definition.
  abbrev pub RowsAreLeastOfAll : Type 0
  RowsAreLeastOfAll = (bounds : Bounds) (first : S) (t : Table) → Likens steps rest before void like ends bounds.steps → SaysWhatIsNoted → like first [] first [] → rest first < bounds.steps → EachHasOneEnd (CameBy void end events steps bounds first)
      → HasAll steps rest before void like ends end events bounds first (whole first) [] t → AreLeastOf (CameBy void end events steps bounds first) t.rows
