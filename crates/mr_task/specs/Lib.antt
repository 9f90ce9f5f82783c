-- What becomes of a task's attempts, read off the calls that the task got. Read Calls and Readings first, then Changes and Laws; State and Steps are of the machine.
pub mod Calls
pub mod Changes
pub mod Laws
pub mod Readings
pub mod State
pub mod Steps
