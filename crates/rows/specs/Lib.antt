-- Rows of running sums.
pub mod Rows
