-- Words that only private functions speak of.
pub mod Advance
pub mod Settled
pub mod Begun
pub mod Running
