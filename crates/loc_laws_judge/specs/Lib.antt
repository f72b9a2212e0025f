pub mod FirstFlaw
