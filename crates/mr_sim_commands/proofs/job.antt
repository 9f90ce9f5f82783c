pub mod Texts
mod Keys
