-- Lemmas, from trees over rows up to the steps of an insertion and a removal.
pub mod Trees
pub mod OneChange
pub mod Rotations
pub mod ReadCalls
pub mod Recolouring
pub mod Counts
pub mod Balanced
pub mod ItemLists
pub mod InsertionSteps
pub mod RemovalSteps
pub mod SplicingOut
pub mod NewNode
pub mod Descent
pub mod Successor
pub mod Exchanging
pub mod Walks
