pub mod Entries
pub mod Swaps
pub mod Rises
pub mod Sinks
pub mod Pigeons
pub mod Puts
pub mod Firsts
