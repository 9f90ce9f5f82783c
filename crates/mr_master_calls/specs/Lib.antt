-- When a call is due, and where the reduce that is taken over has its machine.
pub mod Answering
pub mod Placed
