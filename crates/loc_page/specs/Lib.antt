pub mod Making
pub mod Puts
pub mod Writing
