pub mod Boxes
pub mod Filters
pub mod Heights
pub mod Joining
pub mod Moments
