pub mod Parts
pub mod Sayings
