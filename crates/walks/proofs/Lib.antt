pub mod Visits
pub mod Lookups
pub mod Trails
pub mod Fruitful
pub mod Smallest
pub mod Above
pub mod Searches
