pub mod Beginnings
pub mod Firsts
pub mod Runs
pub mod Chains
pub mod Entries
pub mod Rows
