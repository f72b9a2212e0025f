pub mod Answers
pub mod Found
pub mod Planar
pub mod Standing
pub mod Steps
