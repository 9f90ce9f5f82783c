-- The runs of an input, each as it came to its end (our own profile).
use Rattle.std.specs.Prelude.{◌≡◌, ℕ, true, false, List}
use Rattle.mr_world_events.specs.declared.event.Event.{Event}
use Rattle.mr_explore_search.specs.Steps.{Steps}
use Rattle.mr_explore_search.specs.Runs.{Run}
use Rattle.mr_explore_search.specs.Laws.{IsOneBy}
use Rattle.mr_explore_ends.specs.Outcomes.{Outcome}
use Rattle.mr_explore_faults.specs.declared.fault.Fault.{Fault}
use Rattle.mr_explore.specs.Exploring.{outcome_of}
use Rattle.mr_explore.specs.Faults.{most_events}
use Rattle.mr_explore.specs.Runs.{Exploring, explored}
use Rattle.mr_explore_likeness.specs.Careful.{careful}
use Rattle.mr_explore_likeness.specs.Plays.{cluster}
use Rattle.mr_explore_least.specs.Table.{Arrival}

-- what a run came to
abbrev pub end_of : Exploring → Outcome
end_of e = outcome_of e.config (cluster e.config e.played)

-- the events of its script
abbrev pub events_of : Exploring → List Event
events_of e = e.played.events

-- a run of so many faults, at its end
abbrev pub arrival_of : ℕ → Exploring → Arrival
arrival_of faults e = record { end = end_of e; faults = faults; events = events_of e }

-- a run that goes on by these steps came so: by at most `most` faults, none of which a limit forbids
pub record CameBy (go : Steps Exploring Fault) (most : ℕ) (first : Exploring) (a : Arrival) : Type 0 where
  pub run : Exploring
  pub one : IsOneBy go most_events most first (Run a.faults run)
  pub goes : run.past_limit ≡ false
  pub is : a ≡ arrival_of a.faults run

-- a run of the definition came so
abbrev pub CameSo : (most : ℕ) → (first : Exploring) → Arrival → Type 0
CameSo most first a = CameBy explored most first a

-- one of which no look ahead passes a limit
abbrev pub CameCarefully : (most : ℕ) → (first : Exploring) → Arrival → Type 0
CameCarefully most first a = CameBy careful most first a

-- a fault of one of the runs would pass a limit
pub record SomePassLimit (most : ℕ) (first : Exploring) : Type 0 where
  pub faults : ℕ
  pub run : Exploring
  pub one : IsOneBy explored most_events most first (Run faults run)
  pub passes : run.past_limit ≡ true
