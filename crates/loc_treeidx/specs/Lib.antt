pub mod Gaps
pub mod Meaning
pub mod Standing
