pub mod CarryingOut
pub mod Joined
pub mod Recoveries
pub mod Tasks
pub mod Verbs
