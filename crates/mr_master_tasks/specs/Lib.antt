-- What is stored of the tasks, and which calls it stands for.
pub mod Places
pub mod Told
pub mod Tasks
pub mod Progress
