-- What is kept of the containers and nodes of a cluster, and what is asked of it.
pub mod Living
pub mod Order
pub mod Letters
pub mod Nodes
pub mod Ending
pub mod Sharing
