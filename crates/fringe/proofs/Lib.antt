pub mod Ranks
pub mod Drawing
