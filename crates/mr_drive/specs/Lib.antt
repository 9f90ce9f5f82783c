-- What the threads of a job decide: all of it in Driving, for private contracts.
pub mod Driving
-- Crates beneath that this one gives on. The crates above name them through it.
pub use Rattle.mr_board_report
