-- When two masters hold the same: the word of mr_master_state, as the contract here cites it.
pub use Rattle.mr_master_events.specs.mr_master_state.specs.Same.{SameMachines}
