pub mod Apps
pub mod Rows
pub mod Tested
pub mod Usage
pub mod Words
