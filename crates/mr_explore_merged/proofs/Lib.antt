mod Alive
mod Configs
mod Failing
mod Found
mod GoalRows
mod Knowing
mod Labels
mod Leading
mod LeastTold
mod OneMerged
pub mod Refused
mod Stopping
mod Trying
