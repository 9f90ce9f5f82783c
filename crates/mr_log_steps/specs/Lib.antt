-- A command of an output directory with a log of names, between two calls. The files stand in the order in which to read them.
pub mod Lists
pub mod Commands
pub mod Turns
