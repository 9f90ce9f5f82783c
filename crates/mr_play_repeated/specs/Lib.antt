-- A run that a script has words for, and what `play` makes of that script.
pub mod Repeated
