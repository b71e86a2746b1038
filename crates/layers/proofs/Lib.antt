pub mod Counting
pub mod Running
pub mod Steps
