mod Framed
mod Hexes
mod Shown
