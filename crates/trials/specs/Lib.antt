pub mod Dice
pub mod Lines
pub mod Tally
