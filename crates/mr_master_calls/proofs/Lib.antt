pub mod Handed
pub mod Taken
