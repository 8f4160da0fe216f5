-- The law, from lines to tables.
pub mod Lines
pub mod Bytes
pub mod Back
