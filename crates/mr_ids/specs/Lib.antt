-- Identifiers and their texts. Read Attempt, Text, Faults and Reading in this order, then Laws. Kind says of which kind a task is, Same when two are one,
-- Generations which generation of the master gave a number. Code is what sets of attempts are made with.
pub mod Attempt
pub mod Faults
pub mod Reading
pub mod Text
pub mod Laws
pub mod Same
pub mod Kind
pub mod Generations
pub mod Code
pub mod Contents
