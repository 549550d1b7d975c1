pub mod Any
pub mod Inside
pub mod Exact
pub mod Joins
