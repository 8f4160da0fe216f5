pub mod Scanning
pub mod Reading
