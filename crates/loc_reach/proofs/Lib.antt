pub mod Answered
pub mod Plainly
pub mod Rows
pub mod Stabbed
pub mod Written
