pub mod Called
pub mod Stepping
pub mod Due
pub mod Replies
pub mod Aborts
pub mod Steps
pub mod Comparing
