pub mod Going
pub mod Calming
pub mod Dropping
