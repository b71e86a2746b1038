pub mod Orders
pub mod Pairs
pub mod Entries
pub mod Fringes
pub mod Drains
pub mod Refusals
