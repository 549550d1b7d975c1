pub mod Size
pub mod Sizing
pub mod Bounds
