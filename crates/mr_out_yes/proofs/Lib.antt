pub mod Reading
pub mod Marked
