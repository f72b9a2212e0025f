mod Examples
pub mod Checked
pub mod Judged
pub mod Plain
pub mod ReadRows
pub mod Shown
pub mod TableLaws
