-- What the proofs of the functions cite.
pub mod Searching
pub mod Answers
