pub mod Limits
pub mod Steps
pub mod Fits
pub mod Empty
pub mod Accepted
pub mod Volumes
