pub mod Alikes
pub mod Settled
pub mod ExpandIs
pub mod MeetingIs
pub mod NearestIs
pub mod Steadying
