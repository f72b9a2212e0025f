pub mod Lists
pub mod Meaning
pub mod Targets
pub mod Versions
