pub mod Options
pub mod Findings
pub mod Fits
pub mod Advances
pub mod Turnings
