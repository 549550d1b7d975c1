pub mod Counts
pub mod Volumes
pub mod Windows
pub mod Checks
pub mod Judge
pub mod Facts
