-- What a record of calls is, and a directory in which recorded commands were carried out.
pub mod Recorded
pub mod Lives
