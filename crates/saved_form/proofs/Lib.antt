-- The laws of words as bytes, and those of the saved state.
pub mod Words
pub mod Ranges
pub mod Reading
pub mod Laws
