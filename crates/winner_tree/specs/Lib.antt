pub mod Tournaments
