-- What the proofs of the functions cite, and demand 3 for what the program fed.
pub mod Within
pub mod Pouring
