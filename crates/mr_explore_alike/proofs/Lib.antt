pub mod Void
pub mod Covering
pub mod Leaving
pub mod Least
