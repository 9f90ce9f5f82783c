-- All words are of private contracts: what is printed is defined in mr_explore.
pub mod inner
