-- Beneath: where what is removed lies. What a disk holds no contract can say.
pub mod Beneath
