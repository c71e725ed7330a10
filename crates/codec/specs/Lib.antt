pub mod Words
pub mod Layout
pub mod Writing
pub mod Reading
pub mod Trips
