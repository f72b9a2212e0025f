pub mod Look
pub mod Versions
