-- Demand 3 for a C host.
pub mod Calls
pub mod Witness
