-- Request Five of document 02: the calls of a C host.
pub mod Numbers
pub mod Bytes
pub mod Questions
pub mod Calls
pub mod Laws
pub mod Hosts
