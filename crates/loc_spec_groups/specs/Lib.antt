pub mod Groups
pub mod GroupTexts
