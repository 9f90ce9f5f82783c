pub mod Again
mod Bounded
pub mod Faithfully
pub mod Scripted
pub mod Worded
