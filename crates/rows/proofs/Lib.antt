-- Laws of rows of sums.
pub mod Rows
pub mod Spread
pub mod Held
pub mod Ranges
