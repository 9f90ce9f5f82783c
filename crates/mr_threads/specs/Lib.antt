-- What `threads` prints for a job text, and why it prints nothing. Read Runs first, then Text.
pub mod Runs
pub mod Text
pub mod inner
