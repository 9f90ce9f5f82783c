pub mod Digits
pub mod Lacking
pub mod Words
pub mod Fronts
pub mod Widths
pub mod Told
pub mod Plain
