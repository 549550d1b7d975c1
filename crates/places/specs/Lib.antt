-- Convolution: the places of its taps; those inside the input.
pub mod Places
pub mod Taps
