-- The bench cases of document 01.
pub mod Sizes
pub mod Pools
pub mod Bench
