pub mod Equality
pub mod Fetching
pub mod Same
pub mod Sending
pub mod Standing
pub mod Staying
pub mod Wishes
