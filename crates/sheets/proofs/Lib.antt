mod Behind
mod Counting
pub mod Putting
mod Series
mod Steps
