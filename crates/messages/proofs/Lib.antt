pub mod Rows
pub mod Puts
