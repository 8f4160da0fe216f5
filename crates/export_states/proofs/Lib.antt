pub mod Indexing
