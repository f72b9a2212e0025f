mod Answered
pub mod Ended
mod Examples
mod Named
mod Naming
mod Placed
mod Together
