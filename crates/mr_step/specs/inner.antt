-- Words for private contracts and for proofs.
pub mod Moves
pub mod Said
