pub mod Plainly
pub mod Written
