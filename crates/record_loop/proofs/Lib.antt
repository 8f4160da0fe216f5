pub mod Joining
pub mod Looping
