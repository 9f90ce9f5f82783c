-- A reader of a cluster's destination, who lists it: Moments.
pub mod Moments
