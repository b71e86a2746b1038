pub mod Refusals
pub mod Bytes
pub mod Picks
pub mod Reading
