pub mod Beside
pub mod Changes
pub mod Descents
pub mod Hanging
pub mod Heights
pub mod Searching
pub mod Standing
pub mod Ways
