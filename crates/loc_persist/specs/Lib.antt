-- What the contracts cite, in the order in which it builds up: what is read in a version (Reading), what stays for earlier
-- versions (Keeping), the rows as the steps of a tree see them (Present) and the extras in use (Use), a pointer written (Written), the store of all
-- versions (Stored, Viewed), its roots (Roots), what versions mean (Meaning), a row by number (Numbered) and all rows by number (ByNumber).
pub mod ByNumber
pub mod Keeping
pub mod Meaning
pub mod Numbered
pub mod Present
pub mod Reading
pub mod Roots
pub mod Stored
pub mod Use
pub mod Viewed
pub mod Written
