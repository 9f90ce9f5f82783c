-- The proofs of the jobs' laws, which their impls cite. No public clause cites them.
pub mod LineIndexProofs
pub mod MaxByKeyProofs
pub mod WordCountProofs
pub mod WordsProofs
