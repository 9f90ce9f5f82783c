-- The order of scripts. Order is what it is, and Laws what holds of it; inner has a word for a private contract.
pub mod Laws
pub mod Order
pub mod inner
