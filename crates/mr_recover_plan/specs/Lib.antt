-- The plan for some segments (Plans), and how it is said (Said). Program has what the program does.
pub mod Order
pub mod Plans
pub mod Said
pub mod Program
pub mod inner
