-- The groups of a layer's features: the course (GroupCourses), and what it comes to in the words of a user (Dissolves).
pub mod Dissolves
pub mod GroupCourses
