pub mod Lists
pub mod Sharing
pub mod Dividing
