-- A run that happens once more, event by event (our own).
use Rattle.std.specs.Prelude.{List, [], ◌∷◌, ◌++◌}
use Rattle.mr_world_events.specs.declared.event.Event.{Event}
use Rattle.mr_trace.specs.mr_world.specs.Journal.{Journal}

-- what has happened so far, and the events that are left
pub record Replaying : Type 0 where
  pub so_far : Journal
  pub left : List Event

-- the first of these events happens, if there is one
abbrev pub one_further : Journal → List Event → Replaying
one_further j [] = record { so_far = j; left = [] }
one_further j (e ∷ es) = record { so_far = record { config = j.config; events = j.events ++ e ∷ [] }; left = es }
