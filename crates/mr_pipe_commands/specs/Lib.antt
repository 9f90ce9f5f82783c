-- What a subcommand does with its inputs by name (Named).
pub mod Named
pub mod inner
