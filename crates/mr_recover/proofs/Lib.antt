pub mod Order
pub mod Searching
pub mod Winning
