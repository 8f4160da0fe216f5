pub mod Resting
pub mod Adding
pub mod Sweeping
pub mod Members
pub mod Scans
