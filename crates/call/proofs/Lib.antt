pub mod Checked
pub mod Planes
pub mod Outcome
pub mod Lines
