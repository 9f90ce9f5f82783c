-- What the subcommands that need no cluster print. There is a folder for each: `committer`, `history` and `seq`.
-- `job` is what a job text says, for `seq` and for `play` above. Faults says which faults they answer, and Laws what
-- follows.
pub mod Faults
pub mod Laws
pub mod committer
pub mod history
pub mod inner
pub mod job
pub mod seq
