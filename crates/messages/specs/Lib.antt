pub mod Meant
pub mod Puts
