pub mod IdleKeys
pub mod Submission
pub mod Text
