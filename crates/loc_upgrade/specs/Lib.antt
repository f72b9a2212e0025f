-- An index file as one of the second version, and its edges: the courses (UpgradeCourses), the lines of edges (EdgeTexts), and what they come to
-- in the words of a user (Upgrades, TellsEdges).
pub mod Alike
pub mod EdgeTexts
pub mod TellsEdges
pub mod UpgradeCourses
pub mod Upgrades
