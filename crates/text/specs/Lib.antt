-- the definitions that contracts cite
pub mod Dotted
pub mod Numbers
pub mod Slashed
pub mod Stuck
pub mod Colons
pub mod Words
-- lemmas for the laws of the two kinds, whose proofs stand in src/
pub mod Dots
pub mod Longest
pub mod Back
pub mod Addresses
pub mod Groups
pub mod Runs
pub mod Written
pub mod WrittenParts
pub mod HexWords
pub mod Hexadecimal
pub mod Reading
pub mod WordLists
