-- Words for private contracts and for proofs. No public clause cites them.
pub mod Ends
pub mod Launching
pub mod Expiring
pub mod Reporting
