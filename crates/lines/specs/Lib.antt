pub mod Lines
pub mod Form
