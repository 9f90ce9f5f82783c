mod Asked
mod Came
mod Dropped
mod Gathering
mod Later
mod Ones
