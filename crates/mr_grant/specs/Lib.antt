-- Permission to commit, and whom it goes to. The files stand in the order in which to read them.
pub mod Attempts
pub mod Grant
pub mod Laws
