pub mod Kinds
pub mod Told
pub mod Counted
pub mod Words
