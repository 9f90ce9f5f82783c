-- Words for private contracts.
pub mod Ending
