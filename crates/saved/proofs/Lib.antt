-- What the proofs of the functions cite, and demand 3 over calls of load, restore, save and feed.
pub mod Answers
pub mod Calls
pub mod Witness
