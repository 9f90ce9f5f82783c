-- An output directory on a disk. The files stand in the order in which to read them: names, what a disk is, its calls, and what a power cut leaves.
pub mod Names
pub mod Disk
pub mod Calls
pub mod Cuts
