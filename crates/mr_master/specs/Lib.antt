-- The words that the contracts here cite. They stand in the crates beneath.
pub mod State
pub mod Refused
pub mod Prepared
pub mod Same
