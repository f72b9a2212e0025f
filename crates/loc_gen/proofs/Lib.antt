pub mod Examples
pub mod Numbered
pub mod Written
