-- A search over runs by several threads. inner has words for private contracts: no public clause cites them.
pub mod inner
