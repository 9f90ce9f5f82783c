-- A run of two steps with a script, which one fault marks, and another one loses (our own).
use Rattle.std.specs.Prelude.{◌≡◌, ℕ, ◌+◌, ◌-◌, Bool, true, false, ◌||◌, List, [], ◌∷◌, ◌++◌, Option, Some, None, if◌then◌else◌, nat_le, nat_eq}
use Rattle.mr_world_events.specs.declared.event.Event.{Event}
use Rattle.mr_world_events.specs.declared.event.Event.TheVariants.{Crash, Deliver}
use Rattle.mr_explore_search.specs.Steps.{Onward, Goes, Ends, Steps}
use Rattle.mr_script_order.specs.Order.{sooner}
use Rattle.mr_explore_ends.specs.Outcomes.{Outcome}

pub record Trip : Type 0 where
  pub at : ℕ  -- how many steps it has made
  pub marked : Bool
  pub lost : Bool
  pub events : List Event

abbrev pub stepped : Trip → Trip
stepped t = record { at = t.at + 1; marked = t.marked; lost = t.lost; events = t.events ++ Deliver t.at ∷ [] }

abbrev pub went : Trip → Onward Trip
went t = if t.lost || nat_le 2 t.at then Ends t else Goes (stepped t)

abbrev pub marked : Trip → Trip
marked t = record { at = t.at; marked = true; lost = t.lost; events = t.events ++ Crash 1 0 ∷ [] }

abbrev pub lost : Trip → Trip
lost t = record { at = t.at; marked = t.marked; lost = true; events = t.events }

abbrev pub struck : ℕ → Trip → Option Trip
struck f t = if t.lost then None else (if nat_eq f 0 then Some (marked t) else (if nat_eq t.at 1 then Some (lost t) else None))

abbrev pub trip : Steps Trip ℕ
trip = record { onward = went; faults = λ t. 0 ∷ 1 ∷ []; befallen = struck; later = λ f. None }

abbrev pub steps_left : Trip → ℕ
steps_left t = 2 - t.at

abbrev pub comes_first : Trip → Trip → Bool
comes_first s t = sooner s.events t.events

abbrev pub is_lost : Trip → Bool
is_lost t = t.lost

abbrev pub two_alike : Trip → List ℕ → Trip → List ℕ → Type 0
two_alike s owed t other = (s.at ≡ t.at) × (s.marked ≡ t.marked) × (s.lost ≡ t.lost)

abbrev pub are_one : Trip → Trip → Type 0
are_one s t = s.marked ≡ t.marked

abbrev pub trip_end : Trip → Outcome
trip_end t = record { winners = []; marker = t.marked; outcome = None; files = [] }

abbrev pub trip_events : Trip → List Event
trip_events t = t.events
