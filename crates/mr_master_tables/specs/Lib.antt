-- What the tables of a master store, and what is asked of them.
pub mod Bars
pub mod Launches
pub mod Nodes
pub mod Records
pub mod Marks
pub mod Gone
pub mod Spots
pub mod Earlier
