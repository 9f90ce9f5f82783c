-- Successes (which records tell one), and words that only private functions speak of. What a command does stands in mr_out_steps.
pub mod Successes
pub mod inner
