pub mod Boundaries
pub mod Cycles
pub mod FaceLists
pub mod FaceTexts
pub mod Subdivision
