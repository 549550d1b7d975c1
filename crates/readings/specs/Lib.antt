pub mod Layers
pub mod Pooling
pub mod Calls
pub mod Versions
