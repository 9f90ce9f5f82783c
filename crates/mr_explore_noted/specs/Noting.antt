-- What a table tells of runs that were found (our own profile).
use Rattle.std.specs.Prelude.{◌≡◌, ◌↔◌, ℕ, Bool, true, false, List, if◌then◌else◌}
use Rattle.mr_world_events.specs.declared.event.Event.{Event}
use Rattle.mr_explore_search.specs.Steps.{Steps}
use Rattle.mr_explore_search.specs.Runs.{Found, Run}
use Rattle.mr_explore_search.specs.Laws.{In, IsOneBy}
use Rattle.mr_explore_places.specs.declared.bounds.Bounds.{Bounds}
use Rattle.mr_explore_ends.specs.Outcomes.{Outcome}
use Rattle.mr_explore_least.specs.Laws.{Has}
use Rattle.mr_explore_least.specs.Table.{Arrival, Table, noted, rows_of}

-- Of a run: whether a limit forbids its last fault, what it came to, and the events of its script.
module _ {S : Type 0} (void : S → Bool) (end : S → Outcome) (events : S → List Event) where
  -- a run of so many faults, at its end
  abbrev pub arrival_of : ℕ → S → Arrival
  arrival_of k s = record { end = end s; faults = k; events = events s }

  -- the table to which a run came
  abbrev pub noted_run : ℕ → S → Table → Table
  noted_run k s t = if void s then record t { past_limit = true } else record t { rows = noted (arrival_of k s) t.rows }

  -- a run that is not void is among these, and came so
  abbrev pub CameOf : List (Found S) → Arrival → Type 0
  CameOf found a = (s : S) × In (Run a.faults s) found × (void s ≡ false) × (a ≡ arrival_of a.faults s)

  -- one of these runs is void: its last fault would pass a limit
  abbrev pub OnePassesLimit : List (Found S) → Type 0
  OnePassesLimit found = (k : ℕ) × (s : S) × In (Run k s) found × (void s ≡ true)

  -- The table tells of just these runs, in whatever order they were noted.
  pub record Tells (found : List (Found S)) (t : Table) : Type 0 where
    pub came : List Arrival
    pub are : (a : Arrival) → Has came a ↔ CameOf found a
    pub rows : t.rows ≡ rows_of came
    pub limit : (t.past_limit ≡ true) ↔ OnePassesLimit found

  -- a run of the definition that is not void came so
  pub record CameBy {F : Type 0} (steps : Steps S F) (bounds : Bounds) (first : S) (a : Arrival) : Type 0 where
    pub run : S
    pub one : IsOneBy steps bounds.steps bounds.faults first (Run a.faults run)
    pub goes : void run ≡ false
    pub is : a ≡ arrival_of a.faults run

  -- a run of the definition is void
  abbrev pub OnePassesBy : {F : Type 0} → Steps S F → Bounds → (first : S) → Type 0
  OnePassesBy {F} steps bounds first = (k : ℕ) × (s : S) × IsOneBy steps bounds.steps bounds.faults first (Run k s) × (void s ≡ true)
