mod Due
mod Faithful
mod Making
