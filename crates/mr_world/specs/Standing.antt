-- Which world the parts of a simulator stand for, and what an event's call promises: words of mr_world_state.
pub use Rattle.mr_world_state.specs.Standing.{Reached, MasterIn, LivingStand, NodesStand, MastersStand, Standing, IsTo, IsTaken, Refuses, RefusesEvent, Foresees, Tries}
