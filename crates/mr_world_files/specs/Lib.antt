-- A job of mr_user, mr_mapside and mr_shuffle as one that mr_world_model asks for, with its laws and its files: all of it in Jobs.
pub mod Jobs
pub mod Shown
-- Crates beneath that this one gives on. The crates above name them through it.
pub use Rattle.mr_world_model
