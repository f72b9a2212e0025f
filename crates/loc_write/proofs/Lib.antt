mod Covers
mod Filed
pub mod Held
mod Lists
mod Numbering
mod Ranges
mod Right
pub mod Spelling
