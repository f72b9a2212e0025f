-- Lemmas, from the rows up to what versions mean. Versions stay by Keeping, a change is met by Exchanges, and Trees is for callers.
pub mod Rows
pub mod Bounds
pub mod ByNumber
pub mod Keeping
pub mod Use
pub mod Places
pub mod Prefix
pub mod NewestRows
pub mod Exchanges
pub mod Writing
pub mod Stores
pub mod SameTree
pub mod Meanings
pub mod Trees
mod Steps
mod Marks
