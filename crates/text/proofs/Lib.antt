mod Slashes
mod Sides
mod Further
mod TwoParts
mod FromFn
mod Figures
mod Places
mod Pieces
