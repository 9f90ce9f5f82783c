pub mod PartFiles
