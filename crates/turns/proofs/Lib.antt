pub mod Lowering
pub mod Advanced
