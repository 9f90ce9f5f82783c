-- The job history, from the line of a record to what survives a crash. The files stand in the order in which to read them.
pub mod Line
pub mod Json
pub mod Reading
pub mod State
pub mod Segment
pub mod Calls
pub mod Recorded
pub mod Winner
pub mod Laws
pub mod inner
