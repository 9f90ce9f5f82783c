pub mod Going
mod Kept
pub mod Printed
mod Short
