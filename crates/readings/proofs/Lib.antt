pub mod Rows
pub mod Taps
pub mod Shared
pub mod Convolution
pub mod Transposed
pub mod Pooling
pub mod Calls
pub mod Versions
