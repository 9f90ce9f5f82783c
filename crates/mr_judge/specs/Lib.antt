-- A store's trace and its verdict (Trace), and how that is said (Said). Program has what the program does.
pub mod Trace
pub mod Said
pub mod Program
pub mod inner
