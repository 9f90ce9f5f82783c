-- What the laws of this crate cite beside std: which calls they make, and, where no call can say it, that some world succeeds.
pub mod Runs
pub mod Succeeds
