pub mod Breaches
pub mod BreachTexts
