pub mod Lone
pub mod Crossings
pub mod Passes
pub mod RingLists
pub mod Cuts
pub mod Points
pub mod Flags
mod Examples
