pub mod Lists
pub mod Telling
pub mod Joining
pub mod Awake
pub mod AllRuns
pub mod Going
