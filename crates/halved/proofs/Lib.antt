-- Laws of an output by itself: its taps, and the bounds of what the code computes.
pub mod Outputs
