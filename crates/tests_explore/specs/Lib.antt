-- The runs of the tests.
pub mod Counting
pub mod Trials
pub mod Trips
