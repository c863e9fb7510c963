pub mod Held
pub mod Beside
pub mod Kept
