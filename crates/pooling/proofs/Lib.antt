pub mod Scan
pub mod Bounds
pub mod Accepted
