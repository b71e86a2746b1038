pub mod Answers
pub mod Entries
pub mod Limits
pub mod Readings
pub mod Refusals
pub mod Slowdowns
pub mod Tables
