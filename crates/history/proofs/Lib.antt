mod Feeding
mod Meeting
mod Runs
mod Uses
