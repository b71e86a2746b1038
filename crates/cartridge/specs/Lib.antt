pub mod Listings
pub mod Orders
pub mod Reads
pub mod Records
