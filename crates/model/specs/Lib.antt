-- Document 01 as definitions, in its order; then the requests of document 02.
pub mod Limits
pub mod Logic
pub mod Table
pub mod State
pub mod WakeSet
pub mod Records
pub mod Requests
pub mod Steps
pub mod Sound
pub mod SoundTest
pub mod Feed
pub mod Questions
pub mod Methods
pub mod Demand3
pub mod Day
pub mod Writing
