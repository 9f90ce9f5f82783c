-- Why a launch comes to nothing.
pub mod Refused
pub mod inner
-- Crates beneath that this one gives on. The crates above name them through it.
pub use Rattle.mr_master_state
pub use Rattle.mr_master_state.specs.mr_master_tasks
pub use Rattle.mr_master_state.specs.mr_master_phase
