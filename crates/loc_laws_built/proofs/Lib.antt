pub mod Counted
mod Named
pub mod Spelled
pub mod True
