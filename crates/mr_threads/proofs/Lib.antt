pub mod Failing
pub mod Files
pub mod Reported
