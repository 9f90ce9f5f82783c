-- Words for private contracts and for proofs. No public clause cites them.
pub mod Fronts
pub mod Kept
pub mod Places
