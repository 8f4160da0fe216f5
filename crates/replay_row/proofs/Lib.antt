pub mod Picked
pub mod Examples
