pub mod Kept
pub mod Meant
pub mod Admitted
pub mod Answered
pub mod Found
pub mod InOrder
