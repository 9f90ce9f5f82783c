-- What is read of alike worlds.
pub mod Shows
