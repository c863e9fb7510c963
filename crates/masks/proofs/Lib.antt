mod Steps
mod Table
mod Matches
pub mod Marked
