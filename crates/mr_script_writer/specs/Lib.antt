-- The script that repeats a run: Repeating, and what follows: Laws. Results is what came of a run, line by line.
pub mod Laws
pub mod Repeating
pub mod Results
