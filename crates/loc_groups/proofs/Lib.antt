pub mod Dissolved
pub mod Plainly
pub mod ReadBack
pub mod Rows
pub mod Said
