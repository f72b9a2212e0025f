pub mod Hits
pub mod Judged
pub mod Pinches
