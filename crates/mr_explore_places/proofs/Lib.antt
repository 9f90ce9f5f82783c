pub mod Lists
pub mod Ways
pub mod Within
pub mod Leading
pub mod Doing
pub mod Slots
pub mod Trails
mod Treading
pub mod Begun
pub mod Joining
pub mod Answering
pub mod Fronts
