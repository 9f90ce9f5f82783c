-- The states of one task attempt and what moves it. Read Table first, then Machine, then Laws, which follow from the table alone; Names are what is printed.
pub mod Laws
pub mod Machine
pub mod Names
pub mod Table
