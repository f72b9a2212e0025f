pub mod Appending
mod Counted
mod Growing
mod Lookup
pub mod Reading
