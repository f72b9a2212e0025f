pub mod Files
pub mod Growing
pub mod Pages
