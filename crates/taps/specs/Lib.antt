pub mod Taps
pub mod Joins
pub mod Directions
