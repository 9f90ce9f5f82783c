-- What a world's contracts say. Read Ranges, Limits, Journal, Applying, Repeating and Headline for what its calls promise. Read
-- Readings, VisibleFiles, Histories and Asks for what is read. Standing says how its parts stand for the world of
-- mr_world_model. (Ranges, Limits and Standing give on words of mr_world_state.)
pub mod Ranges
pub mod Limits
pub mod Standing
pub mod Readings
pub mod VisibleFiles
pub mod Histories
pub mod Journal
pub mod Asks
pub mod Applying
pub mod Repeating
pub mod Headline
pub mod inner
-- Crates beneath that this one gives on. The crates above name them through it.
pub use Rattle.mr_world_state
