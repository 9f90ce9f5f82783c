-- Sayings (what a command says of how it ended, and its exit status), Faults (which fault tells an end), Carried (which calls were made for it, and how it is told), Turns and Starting (several, one
-- after another), Asking (what it is asked about), Answers (what it may answer), Shown (what `status` shows), and words that only private functions speak of. What it does stands in mr_out_steps.
pub mod Sayings
pub mod Faults
pub mod Carried
pub mod Turns
pub mod Starting
pub mod Asking
pub mod Answers
pub mod Shown
pub mod inner
