pub mod OrderCourses
pub mod OrderTexts
