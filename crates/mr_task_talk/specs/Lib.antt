-- The lines of a task (Line), and what is answered to them (Talk). Program has what the program does.
pub mod Line
pub mod Talk
pub mod Program
pub mod inner
