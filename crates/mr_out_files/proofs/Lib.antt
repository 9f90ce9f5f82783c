pub mod Begun
pub mod Troubled
