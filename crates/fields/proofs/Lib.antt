pub mod Fields
pub mod Layouts
pub mod Besides
pub mod Parts
pub mod Fills
pub mod Covers
