pub mod Counts
pub mod Digits
pub mod Readings
pub mod Descent
pub mod Growing
pub mod Members
pub mod Starting
