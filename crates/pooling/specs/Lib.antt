pub mod Windows
pub mod Call
pub mod Steps
