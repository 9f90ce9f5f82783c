pub mod Again
pub mod Success_parts
pub mod Success_moves
pub mod Success_opening
pub mod Success_reduce
pub mod Success_commit
pub mod Success_words
