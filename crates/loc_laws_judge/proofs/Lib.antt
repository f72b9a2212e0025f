mod Computed
mod Differences
pub mod First
mod FirstSome
mod Floors
mod OfKind
mod Pairs
mod ReadWithin
pub mod Readable
mod Room
pub mod Same
mod Single
mod VersionFlaws
mod VersionList
