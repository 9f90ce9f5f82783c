-- What the stores answer to a call that comes to them, and what it leaves: of any caller, and of a master.
pub mod Calls
pub mod Masters
