-- The laws of the writer, from the order of the links to the statements of specs/Laws.antt.
pub mod Ordering
pub mod Taken
pub mod Bytes
pub mod Given
pub mod Made
pub mod Kept
