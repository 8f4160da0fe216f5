-- What the proofs of the functions cite.
pub mod Copying
pub mod Parts
