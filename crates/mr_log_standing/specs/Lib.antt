-- How attempts, tasks and a job stand by the lines of a log, and what each order decides. The files stand in the order in which to read them.
pub mod Host
pub mod Standing
pub mod Deciding
pub mod Lawful
pub mod Laws
pub mod Front
pub mod inner
