pub mod Held
pub mod Written
