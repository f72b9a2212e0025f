pub mod Course
pub mod Line
pub mod Swept
