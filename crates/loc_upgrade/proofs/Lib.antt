pub mod Alikeness
pub mod Along
pub mod EdgesTold
pub mod FileBytes
pub mod FileSizes
pub mod Making
pub mod Putting
pub mod Upgraded
