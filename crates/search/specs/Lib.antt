pub mod Guides
pub mod Turns
pub mod Rounds
pub mod Asked
pub mod Outset
pub mod Members
