-- Request Four of document 02: the saved state of a bench.
pub mod Words
pub mod Form
pub mod Saving
pub mod Restoring
pub mod Laws
