pub mod Orders
pub mod Lists
pub mod Matches
pub mod Places
pub mod Required
pub mod Messages
pub mod Trees
pub mod Counts
