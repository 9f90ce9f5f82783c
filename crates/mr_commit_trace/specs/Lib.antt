-- What a store sees of the commands of a script: its calls with their answers (Seen), and how they are written (Shown).
pub mod Seen
pub mod Shown
pub mod Laws
pub mod inner
