pub mod Meant
pub mod Steps
pub mod Passing
pub mod Entries
