pub mod Refusals
pub mod Kinds
pub mod Limits
pub mod Axes
pub mod Versions
pub mod Defaults
