-- Words for private contracts and for proofs.
pub mod Reading
