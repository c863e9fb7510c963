pub mod Clearing
pub mod Ways
