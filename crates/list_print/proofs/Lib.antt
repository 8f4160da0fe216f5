pub mod Parents
pub mod Spaced
pub mod Numbers
pub mod Inverse
pub mod Examples
