-- What the proofs of the functions cite.
pub mod Reading
pub mod Judging
pub mod Empty
pub mod Examples
