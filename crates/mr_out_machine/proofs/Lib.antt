pub mod Alive
pub mod Winning
pub mod Same
pub mod Fewer
