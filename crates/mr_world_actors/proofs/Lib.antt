pub mod Keys
pub mod Slots
pub mod Ending
pub mod Living_next
pub mod Ends
pub mod Replying
pub mod Copying
pub mod Comparing
