-- For the code of halved sums: an output by itself.
pub mod Outputs
