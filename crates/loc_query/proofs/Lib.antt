mod Asking
mod Examples
pub mod Headlines
pub mod LegendAnswers
pub mod Rows
