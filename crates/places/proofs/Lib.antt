-- Laws of convolution's places: each lies in the tensors; a tap by channel, depth, row and column; the bounds of a row of outputs.
pub mod Places
pub mod Taps
pub mod Lines
