pub mod Layers
pub mod Passing
pub mod Spreading
pub mod Holding
pub mod Fitting
pub mod Mapping
