-- Begins (how a directory begins), Made (which calls were made), Troubles (why one failed), Boots, and words that only private functions speak of. What
-- else a disk holds no contract of this crate can say.
pub mod Begins
pub mod Made
pub mod Troubles
pub mod Boots
pub mod inner
