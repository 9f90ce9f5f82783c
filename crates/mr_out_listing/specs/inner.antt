-- What only the proofs of this crate speak of: Blanks.
pub mod Blanks
