mod Telling
mod Ended
mod Records
mod Playing
