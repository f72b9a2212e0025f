pub mod Meaning
pub mod Names
pub mod Splits
pub mod Walks
pub mod Pieces
