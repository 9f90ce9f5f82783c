-- Words for private contracts and for proofs.
pub mod Opening
pub mod Splits
