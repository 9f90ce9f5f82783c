-- The limits of a world: whether an event can be taken without passing one. Words of mr_world_state.
pub use Rattle.mr_world_state.specs.Limits.{launches_in, launch_count, barred_of, is_full, length_with, fits_store, fits_call, fits_bytes, fits_own, fits_bag, is_master, goes_to_master, is_of_master, fits_counted}
unfoldable pub use Rattle.mr_world_state.specs.Limits.{launches_of, within}
