mod Examples
pub mod Layers
pub mod Marks
pub mod Machine
pub mod Fields
pub mod Fronts
