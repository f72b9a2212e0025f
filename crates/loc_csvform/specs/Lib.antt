pub mod Faults
pub mod Layer
pub mod Records
