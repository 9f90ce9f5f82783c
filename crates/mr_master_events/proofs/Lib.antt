pub mod Ends
pub mod Delivering
pub mod Answering
pub mod Planned
pub mod Entering
pub mod Distinct
pub mod GivenUp
