-- The commands of an output directory, one call of the disk at a time. The files stand in the order in which to read them: what records tell of an attempt, what a command is, what it does of each answer.
pub mod Standing
pub mod Commands
pub mod Steps
