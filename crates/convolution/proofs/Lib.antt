-- Laws of convolution: its taps inside the input, the bounds of what the code computes, a kernel row over a row of the input, the outputs.
pub mod Inside
pub mod Bounds
pub mod Runs
pub mod RowTaps
pub mod Outputs
