pub mod Laws
pub mod Memory
