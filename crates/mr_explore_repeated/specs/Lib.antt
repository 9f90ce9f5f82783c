-- The script of each run of an exploration is played to the end to which the run came.
pub mod Leading
