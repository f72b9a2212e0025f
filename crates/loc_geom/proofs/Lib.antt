pub mod Grid
pub mod Products
pub mod Symmetry
mod Rows
