-- Faults of one kind: Kinds is which there are, Next which of them the calm makes anyway.
pub mod Kinds
pub mod Next
