-- Runs of commands over a disk with kills and power cuts, and what each of them keeps. The files stand in the order in which to read them.
pub mod Worlds
pub mod Runs
pub mod Promises
pub mod Fronts
