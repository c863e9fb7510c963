mod Asked
mod Few
mod Feeds
