pub mod PartFiles
pub mod Text
