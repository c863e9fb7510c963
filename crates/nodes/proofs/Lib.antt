pub mod Guards
pub mod Readings
