pub mod Layout
pub mod Stored
pub mod Cells
pub mod Ready
