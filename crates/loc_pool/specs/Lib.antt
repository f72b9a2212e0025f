pub mod Cells
pub mod Maps
pub mod Ownership
pub mod Rows
pub mod Same
