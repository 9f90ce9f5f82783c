-- The ranges of a config's numbers: those of mr_world_state.
pub use Rattle.mr_world_state.specs.Ranges.{IsInRange}
