-- When two plays are alike, and how they go on.
pub mod Plays
