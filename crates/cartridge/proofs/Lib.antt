pub mod Entries
pub mod Finding
pub mod Halving
pub mod Listed
pub mod Rises
pub mod Walking
