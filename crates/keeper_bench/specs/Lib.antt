pub mod Translate
pub mod Verdict
pub mod Methods
