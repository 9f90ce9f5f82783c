-- What is printed for a script, and which faults there are: Printed.
pub mod Printed
