mod Appended
mod Tracing
pub mod Repeating
mod Showing
