-- An operation of the committer over a pipe: which one (Wish), and what is said for the lines that come (Talk). Program has what the program does.
pub mod Wish
pub mod Talk
pub mod Status
pub mod Program
pub mod inner
