-- What the proof of `keep` cites, and what its callers do.
pub mod Keeping
pub mod Ending
