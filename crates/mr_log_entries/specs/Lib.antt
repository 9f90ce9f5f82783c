-- The entries of a log, what they record, and their texts.
pub mod Recorded
pub mod Numerals
pub mod Texts
pub mod Histories
