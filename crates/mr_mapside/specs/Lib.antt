-- What a map work gives to the reduces, and which bytes that is. Read Block, Cutting and Runs in this order. Work has
-- the faults, and Laws what follows.
pub mod Block
pub mod Cutting
pub mod Laws
pub mod Runs
pub mod Work
pub mod inner
