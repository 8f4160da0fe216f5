pub mod Examples
pub mod Speaking
