-- Layout (which path each name has), Faults, Jobs, Segments and Notes (what bytes tell), Recorded (what is found), and words that only private functions speak of. What a disk holds no
-- contract can say.
pub mod Layout
pub mod Faults
pub mod Jobs
pub mod Segments
pub mod Recorded
pub mod Notes
pub mod inner
