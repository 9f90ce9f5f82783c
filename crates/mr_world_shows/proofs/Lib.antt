pub mod Order
pub mod Shown
