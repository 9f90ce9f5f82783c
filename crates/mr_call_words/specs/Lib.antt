-- The words of calls and answers: Words.
pub mod Words
pub mod inner
