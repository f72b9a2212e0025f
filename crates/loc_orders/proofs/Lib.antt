pub mod Asked
mod Examples
