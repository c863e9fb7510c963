mod Finds
mod Longest
