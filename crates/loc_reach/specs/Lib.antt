-- The edges on the spans of a file: the course (SpanCourses), and what it comes to in the words of a user (Stabs).
pub mod SpanCourses
pub mod Stabs
