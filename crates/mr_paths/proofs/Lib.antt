pub mod Apart
pub mod Layouts
pub mod NameBytes
pub mod Paths
pub mod TextReading
