-- The ends that runs came to, each with the least of the runs to it (our own profile).
use Rattle.std.specs.Prelude.{ℕ, Bool, false, not, ◌&&◌, ◌||◌, List, [], ◌∷◌, ◌==◌, nat_lt, Option, Some, None, if◌then◌else◌}
use Rattle.std.specs.List.{list_any}
use Rattle.mr_world_events.specs.declared.event.Event.{Event}
use Rattle.mr_script.specs.declared.expectation.Expectation.{Expectation}
use Rattle.mr_script_order.specs.Order.{sooner}
use Rattle.mr_explore_ends.specs.Goals.{meets}
use Rattle.mr_explore_ends.specs.Outcomes.{Outcome, same_outcome}

-- a run that was made: the end that it came to, how many faults it has, and its events
pub record Arrival : Type 0 where
  pub end : Outcome
  pub faults : ℕ
  pub events : List Event

-- a run comes before another: it has fewer faults, or as many, and its script comes first
abbrev pub earlier : Arrival → Arrival → Bool
earlier a b = nat_lt a.faults b.faults || ((a.faults == b.faults) && sooner a.events b.events)

-- a run is told by a row already: it came to the row's end, and does not come before it
abbrev pub is_told : Arrival → Arrival → Bool
is_told a row = same_outcome row.end a.end && not (earlier a row)

-- the rows without the first of this end
abbrev pub without : Outcome → List Arrival → List Arrival
without end [] = []
without end (r ∷ rs) = if same_outcome r.end end then rs else r ∷ without end rs

-- a run among rows, behind those that come before it
abbrev pub placed : Arrival → List Arrival → List Arrival
placed a [] = a ∷ []
placed a (r ∷ rs) = if earlier r a then r ∷ placed a rs else a ∷ r ∷ rs

-- the rows after one run more: where a row tells it already they stay, and else it has its place among the rows of other ends
abbrev pub noted : Arrival → List Arrival → List Arrival
noted a rows = if list_any (is_told a) rows then rows else placed a (without a.end rows)

-- the rows after runs, one after another
abbrev pub all_noted : List Arrival → List Arrival → List Arrival
all_noted [] rows = rows
all_noted (a ∷ more) rows = all_noted more (noted a rows)

-- the rows of runs
abbrev pub rows_of : List Arrival → List Arrival
rows_of came = all_noted came []

-- the first row that meets a goal
abbrev pub least_of : List Expectation → List Arrival → Option Arrival
least_of goal [] = None
least_of goal (r ∷ rs) = if meets goal r.end then Some r else least_of goal rs

-- what is known of runs: the rows, and whether one came to no end, since its last fault would pass a limit
pub record Table : Type 0 where
  pub rows : List Arrival
  pub past_limit : Bool

abbrev pub empty : Table
empty = record { rows = []; past_limit = false }

-- a table to which the runs of another one came
abbrev pub joined : Table → Table → Table
joined t more = record { rows = all_noted more.rows t.rows; past_limit = t.past_limit || more.past_limit }
