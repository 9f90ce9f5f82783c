-- An output directory with a log of names on a disk. The files stand in the order in which to read them.
pub mod Names
pub mod Log
pub mod Calls
pub mod Cuts
