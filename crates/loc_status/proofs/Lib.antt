pub mod AtCorner
pub mod Beginning
pub mod Ending
pub mod Ends
pub mod Examples
pub mod Lasts
pub mod Standing
