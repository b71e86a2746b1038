pub mod Costs
pub mod Times
pub mod Steeps
pub mod Members
