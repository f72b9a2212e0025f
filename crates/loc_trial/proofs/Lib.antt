mod Corners
mod Decimals
mod Feeding
mod InMemory
mod LayerTexts
pub mod Plain
mod PointTexts
mod Sized
mod Tallies
mod Tried
