mod Commands
mod Objects
mod Traces
mod Verdicts
mod Programs
