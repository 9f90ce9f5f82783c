-- What a trace says of a run. The words of events, calls and packets: Words. What happened, event by event: Happened. The text of it: Trace. What `play` shows beside its text: Shown.
pub mod Words
pub mod Happened
pub mod Trace
pub mod Shown
-- Crates beneath that this one gives on. The crates above name them through it.
pub use Rattle.mr_play
pub use Rattle.mr_play.specs.mr_world
pub use Rattle.mr_play.specs.mr_world_state
