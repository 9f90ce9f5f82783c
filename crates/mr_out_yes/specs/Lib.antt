-- A reader of a directory of mrout: Readers (what he looked at, and what a yes says).
pub mod Readers
