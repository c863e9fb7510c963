pub mod Asked
pub mod Runs
pub mod Uses
pub mod Twins
