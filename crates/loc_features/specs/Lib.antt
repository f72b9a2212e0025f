-- The features at points of any layer that reads: what is written (Features, Told), the course (FeatureCourses), what it comes to in the words of a user
-- (FeaturesTold), what is named at a point, part by part (Gathered), by its places in the parts (Places), and the law over queries (Queries).
pub mod FeatureCourses
pub mod Features
pub mod FeaturesTold
pub mod Gathered
pub mod Places
pub mod Queries
pub mod Told
