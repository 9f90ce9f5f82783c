-- Whether a directory may be read, in the order in which to read it: Classes (what a name is), Seen (what was seen of a directory), Verdicts
-- (what is seen and what is told, against the answer), Report, Json and Printed (what is printed), Readings (of a whole listing), and Laws.
pub mod Classes
pub mod Seen
pub mod Verdicts
pub mod Report
pub mod Json
pub mod Printed
pub mod Readings
pub mod Laws
pub mod inner
