-- What is explored. Vain is where a run goes on in vain, and Faults where a fault may befall a run and what then comes
-- of it. Runs is which runs there are. Exploring is what an exploration promises. Ends is what is told of the ends, and
-- Explored what is printed of an input. Checks is why that may fail, and Laws what follows.
pub mod Checks
pub mod Ends
pub mod Explored
pub mod Exploring
pub mod Faults
pub mod Laws
pub mod Runs
pub mod Vain
pub mod inner
