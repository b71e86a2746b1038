pub mod Maps
pub mod Preparing
pub mod Measures
pub mod Cases
pub mod Listed
