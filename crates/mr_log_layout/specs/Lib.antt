-- What an output directory with a log holds on the disk.
pub mod Paths
pub mod Jobs
pub mod Summaries
