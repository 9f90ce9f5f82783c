pub mod Earlier
mod GoalRows
pub mod LeastRows
pub mod Places
mod RowObjects
mod Rows
