pub mod Leaving
pub mod Grids
pub mod Through
pub mod Turned
