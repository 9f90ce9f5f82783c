-- What the calls of a world's parts say. Read Ranges and Limits for what a world may be. Machines and Standing say how
-- its parts stand for the world of mr_world_model (of mr_world_actors, Living and Nodes), and what an event's call promises.
-- Histories says what an event leaves of the job history's bytes, and Asks what it would ask of a store. Same says when two
-- worlds' parts hold the same.
pub mod Ranges
pub mod Limits
pub mod Machines
pub mod Standing
pub mod Histories
pub mod Asks
pub mod Same
pub mod inner
-- Crates beneath that this one gives on. The crates above name them through it.
pub use Rattle.mr_master
pub use Rattle.mr_world_actors
