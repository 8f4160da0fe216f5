-- What the proofs of the functions cite, and what callers do.
pub mod Results
pub mod Answers
pub mod Beginning
pub mod Asking
pub mod Calling
pub mod Refusals
pub mod Hosts
