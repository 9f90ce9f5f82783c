-- What a job computes, and which output a cluster is measured against. Read Computation, Laws, Groups, Sequential and Meaning in this order, then Codecs.
pub mod Codecs
pub mod Computation
pub mod Faults
pub mod Groups
pub mod Laws
pub mod Meaning
pub mod Sequential
pub mod inner
