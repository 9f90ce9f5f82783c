mod InTurn
mod Objects
mod Onces
mod Rights
mod Turning
mod Writing
