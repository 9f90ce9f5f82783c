-- What a reduce makes of the maps' blocks. Read Part first, then PieceMeaning, Merging and Work, and SequentialText
-- for what it comes to. Shelf stands alone.
pub mod Merging
pub mod Part
pub mod PieceMeaning
pub mod SequentialText
pub mod Shelf
pub mod Work
pub mod inner
