-- Products of sizes: element counts, and the modulus of an index.
pub mod Counts
pub mod Index
