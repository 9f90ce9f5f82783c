-- Listings of a directory, in the order in which to read them: Lines (what a line says), Reading (what a whole listing says).
pub mod Lines
pub mod Reading
pub mod inner
