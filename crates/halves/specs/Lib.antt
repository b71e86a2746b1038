pub mod Labels
pub mod Agreement
pub mod Settling
pub mod Expansions
pub mod Meetings
pub mod Views
pub mod Sides
pub mod Beginnings
