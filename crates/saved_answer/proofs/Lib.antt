-- What the proofs of callers cite.
pub mod Numbers
