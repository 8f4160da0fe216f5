-- The laws of the scan, and of the answer.
pub mod Scanning
pub mod Handing
