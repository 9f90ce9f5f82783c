pub mod Effect
pub mod Listing
pub mod Script
pub mod Text
