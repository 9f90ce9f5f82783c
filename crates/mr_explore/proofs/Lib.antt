mod Ahead
mod Asking
mod Beginning
mod Listed
pub mod Making
mod OneText
mod Onwards
pub mod Printing
pub mod Refused
mod Telling
mod Trying
mod Unseen
mod Waiting
mod Winning
mod Unasked
