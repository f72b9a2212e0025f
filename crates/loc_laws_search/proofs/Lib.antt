pub mod Counted
pub mod FindsPlace
pub mod Walking
