mod Judging
mod Planning
