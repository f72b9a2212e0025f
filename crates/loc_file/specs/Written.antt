-- What the writer of an index file writes, in the words of the crates that write.
pub use Rattle.loc_page.specs.Writing.{IsToldAtMost, IsWhole, IsFront, WritesFile}
pub use Rattle.loc_write.specs.Written.{IsContentOf, HoldsParts, ContentHoldsParts}
