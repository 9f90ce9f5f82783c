-- What is shown of a run that threads made: Text. inner has words for private contracts.
pub mod Text
pub mod inner
