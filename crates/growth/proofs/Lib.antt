pub mod Openings
pub mod Evens
pub mod Taken
pub mod Entered
pub mod Returned
