-- Words that only private functions speak of.
pub mod Notes
pub mod Kept
pub mod Choosing
