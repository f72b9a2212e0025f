pub mod Asked
pub mod Generated
pub mod TrialCourses
pub mod Trials
