-- What contracts see of a world, its config and its journal, and the world of the definitions that these lead to.
-- Our own: where code and definitions meet.
use Rattle.std.specs.Prelude.{◌≡◌, ◌≤◌, Bool, ◌&&◌, nat_lt, List, [], ◌∷◌, ◌++◌, if◌then◌else◌, length}
use Rattle.mr_history.specs.State.{State}
use Rattle.mr_world_model.specs.Packets.{Config}
use Rattle.mr_world_model.specs.World.{World, Event, opening_world}
use Rattle.mr_world_model.specs.Effect.{happens}
use Rattle.mr_world_model.specs.Claims.{world_of}
use Rattle.mr_world_model.specs.Sequential.{is_taken}
use Rattle.mr_world.specs.declared.limits.TheConstants.{MAX_EVENTS}
use Rattle.mr_world_state.specs.declared.parts.Parts.{Parts}
use Rattle.mr_world.specs.Histories.{history_of}
use Rattle.mr_world_state.specs.Limits.{within, fits_counted}
use Rattle.mr_world_state.specs.Standing.{Standing}

-- the events are those that were taken, in order
pub record Journal : Type 0 where
  pub config : Config
  pub events : List Event

-- the world after these events, under the limits
abbrev pub run_of : Config → List Event → World
run_of cfg es = world_of cfg (within cfg) es

-- the world that a journal leads to
abbrev pub world_in : Journal → World
world_in j = run_of j.config j.events

-- the event, if it is taken
abbrev pub if_taken : Config → World → Event → List Event
if_taken cfg w e = if is_taken cfg (within cfg) w e then e ∷ [] else []

-- the job history in bytes after them
abbrev pub history_in : Journal → State
history_in j = history_of j.config j.events

-- of a list of events those that are taken, as it is run
abbrev pub taken : Config → World → List Event → List Event
taken cfg w [] = []
taken cfg w (e ∷ es) = if_taken cfg w e ++ taken cfg (happens cfg (within cfg) w e) es

-- The parts stand for the world that the journal leads to, each event of it was taken, and it has room. This is where
-- the code of a world and the definitions meet.
pub record Keeps (p : Parts) (es : List Event) : Type 0 where
  pub stands : Standing p (run_of p.config es)
  pub taken : taken p.config opening_world es ≡ es
  pub history : p.history ≡ history_of p.config es
  pub few : length es ≤ MAX_EVENTS

-- whether an event passes no limit, that of the journal among them
abbrev pub fits : Journal → Event → Bool
fits j e = nat_lt (length j.events) MAX_EVENTS && within j.config (world_in j) e

-- of these limits those that are found without memory
abbrev pub fits_first : Journal → Event → Bool
fits_first j e = nat_lt (length j.events) MAX_EVENTS && fits_counted j.config (world_in j) e
