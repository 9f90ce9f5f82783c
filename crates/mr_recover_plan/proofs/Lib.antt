mod Commands
mod Objects
mod Histories
mod Orders
mod Programs
