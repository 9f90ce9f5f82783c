-- The output committer as tables of lines, each line a namespace call and what follows from its answer. The files stand in the order in which to read them:
-- from one line to the effect of a whole operation, then recovery, and an answer in two halves.
pub mod Line
pub mod Steps
pub mod Tables
pub mod CommitterEffect
pub mod Settles
pub mod Laws
pub mod Recovery
pub mod Recovered
pub mod Halves
pub mod inner
