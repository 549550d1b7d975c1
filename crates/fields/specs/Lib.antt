pub mod Layers
pub mod Sheet
