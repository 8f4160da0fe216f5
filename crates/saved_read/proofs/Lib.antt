-- What the proofs of the functions cite.
pub mod Laying
pub mod Heads
pub mod Judging
