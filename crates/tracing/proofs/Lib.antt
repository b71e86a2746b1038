pub mod Numbers
pub mod Traced
pub mod Halved
