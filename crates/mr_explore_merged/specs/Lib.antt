-- What a search that leaves out alike runs finds of an input. Came is how its runs came to their ends, Least what rows tell of runs of which some are left out, Merged what is
-- found and printed, Laws what holds of that, and inner has words for private contracts.
pub mod Came
pub mod Laws
pub mod Least
pub mod Merged
pub mod inner
