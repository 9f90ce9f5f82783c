-- A directory of mrout by its history, in the order in which to read it: Tasks (what the history says, and what is seen), Findings (what of it does not
-- agree, and the answer), Printed (what is printed), and Laws.
pub mod Tasks
pub mod Findings
pub mod Printed
pub mod Laws
