pub mod Numbers
pub mod Ordered
