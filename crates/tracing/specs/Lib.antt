pub mod Listings
pub mod Meetings
