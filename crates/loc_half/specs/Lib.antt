pub mod HalfEdgeLists
pub mod Rounds
pub mod Turns
