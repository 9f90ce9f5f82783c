pub mod Utf8
pub mod Told
pub mod Entries
pub mod Apart
