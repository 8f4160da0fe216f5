pub mod Loads
pub mod Writes
