pub mod Entries
pub mod Translate
pub mod Calls
