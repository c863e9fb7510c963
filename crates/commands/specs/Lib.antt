pub mod Blanks
pub mod Lines
pub mod Stands
pub mod Commands
pub mod Replies
pub mod Agreement
