pub mod Boxes
pub mod Moments
pub mod Unions
