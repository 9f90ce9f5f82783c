pub mod Choosing
pub mod EndObjects
pub mod Joining
mod Noting
mod Pieces
