-- Paths, their texts, and where a job's files stand. The files stand in the order in which to read them.
pub mod Path
pub mod Text
pub mod Layout
pub mod Laws
