-- When two runs of a walk go on alike (Likens), which runs need not be made then, and what is found without them (Leaving), and which of these is
-- the least (Least).
pub mod Likens
pub mod Leaving
pub mod Least
