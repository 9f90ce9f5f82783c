pub mod Readings
pub mod Reduces
