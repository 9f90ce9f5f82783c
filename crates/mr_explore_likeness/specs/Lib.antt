-- When a run of an exploration is so like another one that it need not be made. Plays is when two plays are so alike,
-- Owed when what was put off in them is, and Runs when two runs are. Careful is how runs go on that are not as near to each
-- limit, and Losing what a search finds of them.
pub mod Plays
pub mod Owed
pub mod Runs
pub mod Careful
pub mod Losing
