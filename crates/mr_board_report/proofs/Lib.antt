mod Calls
mod Came
mod Deciding
mod Refusals
mod Running
mod Success
mod Untold
