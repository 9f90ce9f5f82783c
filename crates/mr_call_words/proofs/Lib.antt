mod Openings
mod Splits
mod Sayable
mod Found
mod PathWords
