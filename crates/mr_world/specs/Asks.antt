-- The store call that an event would make, by whom, and what its caller would hear (our own profile).
use Rattle.std.specs.Prelude.{◌&&◌, Option, None, if◌then◌else◌, is_none}
use Rattle.mr_world_model.specs.World.{Event}
use Rattle.mr_world_model.specs.Effect.{not_now}
use Rattle.mr_world_state.specs.declared.asked.Asked.{Asked}
-- that of an event that is taken
pub use Rattle.mr_world_state.specs.Asks.{asked_by, by_master, by_container}
use Rattle.mr_world.specs.Journal.{Journal, world_in, fits}

-- an event that would not be taken makes none
abbrev pub asked_in : Journal → Event → Option Asked
asked_in j e = if is_none (not_now j.config (world_in j) e) && fits j e then asked_by j.config (world_in j) e else None
