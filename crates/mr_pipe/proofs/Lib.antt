pub mod Appending
mod Feeds
