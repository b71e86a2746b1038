pub mod Changes
pub mod Holding
pub mod Lists
pub mod Readings
