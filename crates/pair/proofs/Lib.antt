mod Ordered
mod Asked
