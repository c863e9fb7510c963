pub mod Openings
pub mod Growing
pub mod Steps
pub mod Deletions
pub mod Insertions
pub mod Loadings
pub mod Writings
