pub mod Translate
pub mod Calls
