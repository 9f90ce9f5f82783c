-- Marks of events: Marks. What becomes of an attempt: Fates. Their words: Words.
pub mod Marks
pub mod Fates
pub mod Words
