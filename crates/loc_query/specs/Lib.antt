pub mod Answered
pub mod Chosen
pub mod Headline
pub mod QueryCourses
