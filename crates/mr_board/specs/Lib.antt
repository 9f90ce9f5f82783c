-- What the calls of a board promise: all of it in Boards.
pub mod Boards
-- Crates beneath that this one gives on. The crates above name them through it.
pub use Rattle.mr_world
pub use Rattle.mr_world.specs.mr_world_state
