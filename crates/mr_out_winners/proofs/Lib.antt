pub mod Tasking
pub mod Plain
pub mod Inverse
