pub mod Answered
pub mod Courses
pub mod LineLists
pub mod Members
pub mod Plainly
pub mod Refusals
pub mod Rows
pub mod Said
