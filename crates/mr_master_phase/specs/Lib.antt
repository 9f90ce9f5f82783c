-- What a master is at, which call is due by it, and what the answer of that call changes.
pub mod WorkKinds
pub mod Work
pub mod Heard
pub mod Coming
pub mod Taking
pub mod Answering
