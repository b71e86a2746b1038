pub mod Calls
pub mod Closures
pub mod Histories
pub mod Laws
pub mod Layers
pub mod Rules
pub mod Slowdowns
