-- What only the proofs of this crate speak of: Notes.
pub mod Notes
