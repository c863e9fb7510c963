pub mod Field
pub mod Layout
pub mod Beside
pub mod Filled
