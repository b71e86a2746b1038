pub mod Replays
pub mod Champions
