-- Runs of any number of commands over a log of names, and what each of them keeps. The files stand in the order in which to read them.
pub mod Worlds
pub mod Runs
pub mod Promises
pub mod Visible
