-- What the proofs of the functions cite.
pub mod Forming
pub mod Saving
