-- The lines of a stream (Stream), and the statuses of faults.
pub mod Stream
pub mod Status
pub mod inner
