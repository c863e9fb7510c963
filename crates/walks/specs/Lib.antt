pub mod Walks
pub mod Trails
pub mod Smallest
pub mod Shows
