pub mod Around
pub mod Boxes
pub mod Parity
pub mod Rows
