pub mod Past_stays
pub mod Owning
pub mod Copies
