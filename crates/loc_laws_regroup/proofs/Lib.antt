mod Accepted
mod Cycles
pub mod Dissolved
mod Examples
mod Grids
mod Layers
mod Lists
mod Readings
mod Rings
mod Symbols
mod TableCorners
mod Trees
mod Values
