mod Copied
pub mod Faulted
pub mod Flagged
pub mod Numbered
pub mod Settled
pub mod Resting
mod Answered
