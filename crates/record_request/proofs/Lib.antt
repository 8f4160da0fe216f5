pub mod Staying
pub mod Dispatching
