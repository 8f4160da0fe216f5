-- What the proofs of the functions cite.
pub mod Cutting
pub mod Sorts
pub mod Storing
pub mod Gathering
pub mod Numbering
pub mod Examples
