pub mod Steps
pub mod TableLaws
