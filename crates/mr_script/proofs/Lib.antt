pub mod Attempts
pub mod Expectations
pub mod Lines
pub mod Numbers
pub mod Readings
pub mod Spellings
pub mod Verbs
pub mod Words
