pub mod Comparing
mod Faults
pub mod Inputs
