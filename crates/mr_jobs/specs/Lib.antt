-- Words, with the three jobs WordCount, MaxByKey and LineIndex.
pub mod LineIndex
pub mod MaxByKey
pub mod WordCount
pub mod Words
pub mod inner
