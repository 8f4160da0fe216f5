-- What the proofs of the functions cite, and demand 3.
pub mod Entries
pub mod Calls
pub mod Witness
