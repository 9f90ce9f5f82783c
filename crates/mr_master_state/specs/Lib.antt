-- What the machine of a master stores, which past of mr_master_model it stands for, and what a step changes of it. The
-- files stand in the order in which to read them: the parts, State, and then what is told, what is taken over, and what
-- is prepared. Same says when two machines hold the same.
pub mod State
pub mod Told
pub mod Kills
pub mod Passing
pub mod Taking
pub mod Prepared
pub mod Same
pub mod inner
-- Crates beneath that this one gives on. The crates above name them through it.
pub use Rattle.mr_master_tables
pub use Rattle.mr_master_tasks
pub use Rattle.mr_master_phase
