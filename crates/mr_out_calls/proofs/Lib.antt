pub mod Going
pub mod Living
