pub mod Exchanges
pub mod Legends
pub mod Numbered
pub mod Stores
