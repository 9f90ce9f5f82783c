-- What a container's work is given, and what it answers: all of it in Works.
pub mod Works
