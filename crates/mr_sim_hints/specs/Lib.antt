-- Which word of a line a hint is about: Places.
pub mod Places
