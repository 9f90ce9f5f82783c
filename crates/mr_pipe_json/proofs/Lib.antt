mod Joins
mod Objects
mod Tells
