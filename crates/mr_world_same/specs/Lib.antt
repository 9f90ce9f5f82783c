-- When the parts of two worlds hold the same, and what follows.
pub mod Same
