-- What the proofs of the functions cite.
pub mod Making
pub mod Ending
