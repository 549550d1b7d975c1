-- Laws of sums and pairs of numbers; the products of a shape by its axes; a call by its verdict.
pub mod Sums
pub mod Pairs
pub mod Products
pub mod Calls
