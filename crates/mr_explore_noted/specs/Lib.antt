-- Runs that a search found, in a table of least scripts. Noting is what a table tells of runs, Searched what it tells of a search, Laws what holds of such tables, and inner has words for private contracts.
pub mod Noting
pub mod Searched
pub mod Laws
pub mod inner
