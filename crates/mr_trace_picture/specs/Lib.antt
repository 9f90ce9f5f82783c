-- A run that happens once more, event by event: Replaying.
pub mod Replaying
