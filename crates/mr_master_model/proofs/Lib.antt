pub mod Growing
pub mod Recording
pub mod Rows
pub mod Final
pub mod Launching
pub mod Killing
