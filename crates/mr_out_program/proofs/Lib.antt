pub mod Advancing
pub mod Telling
pub mod Turning
pub mod Outputs
pub mod Showing
pub mod Starting
