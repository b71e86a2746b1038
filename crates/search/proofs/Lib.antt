pub mod Stops
pub mod OneTurn
pub mod Turnabout
pub mod Grounded
pub mod Departing
