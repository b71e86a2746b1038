pub mod Picks
pub mod Pigeons
pub mod Rising
pub mod Accepted
pub mod Sound
pub mod Verdicts
