-- The namespace: what each call answers and leaves. What a content is stands in mr_names_tree (Node, Content, Held, Listing). Then read Barred and
-- Calls, then Laws and Rows.
pub mod Attempts
pub mod Barred
pub mod Calls
pub mod Laws
pub mod Rows
