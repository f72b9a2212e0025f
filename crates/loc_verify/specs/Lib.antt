pub mod Judged
pub mod Least
pub mod Readings
pub mod Following
