-- The rules of validity, feature by feature: the course (BreachCourses), and what it comes to in the words of a user (Judges).
pub mod BreachCourses
pub mod Judges
