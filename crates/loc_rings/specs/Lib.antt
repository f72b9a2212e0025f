pub mod Parity
pub mod Values
pub mod Kept
pub mod Layers
pub mod Flags
pub mod Cases
