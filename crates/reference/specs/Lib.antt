pub mod Required
pub mod Shown
