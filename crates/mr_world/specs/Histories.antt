-- The job history in bytes, as a journal's events leave it. What one event changes is told in mr_world_state. Our own: where
-- code and definitions meet.
use Rattle.std.specs.Prelude.{ℕ, ◌&&◌, nat_lt, nat_le, List, [], ◌∷◌, if◌then◌else◌}
use Rattle.mr_history.specs.State.{State}
use Rattle.mr_history.specs.Calls.{segment}
use Rattle.mr_world_model.specs.Packets.{Config}
use Rattle.mr_world_model.specs.World.{World, Event, opening_world}
use Rattle.mr_world_model.specs.Effect.{happens}
-- what an event changes; the history before the first one, and after one
pub use Rattle.mr_world_state.specs.Histories.{opening_history, if_made, change_of, changed}
use Rattle.mr_world_state.specs.Limits.{within}

-- the history after events in turn, each of which is taken
abbrev pub changed_by : Config → World → State → List Event → State
changed_by cfg w h [] = h
changed_by cfg w h (e ∷ es) = changed_by cfg (happens cfg (within cfg) w e) (changed h (change_of cfg w e)) es

abbrev pub history_of : Config → List Event → State
history_of cfg es = changed_by cfg opening_world opening_history es

-- the stable bytes of the segment of generation k; none where its master was not started
abbrev pub stable_bytes : State → ℕ → List ℕ
stable_bytes h k = if nat_lt 0 k && nat_le k h.fence then (segment h k).stable else []
