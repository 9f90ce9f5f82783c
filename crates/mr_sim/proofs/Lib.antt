pub mod Failing
pub mod ListedPlays
pub mod Refusals
pub mod Sought
