pub mod Heaps
pub mod Indexes
pub mod Bounds
pub mod Sifts
