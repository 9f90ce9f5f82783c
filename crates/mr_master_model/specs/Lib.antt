-- What a master has seen, does next and sends, each read off its past. The files stand in the order in which to read them; Rows works a small job out.
pub mod Job
pub mod Past
pub mod Readings
pub mod Hearing
pub mod Duty
pub mod Answered
pub mod Sends
pub mod Next
pub mod Laws
pub mod Rows
