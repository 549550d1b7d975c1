-- Taps and their sums; no overflow; demand 3.
pub mod Taps
pub mod Finite
pub mod Whole
pub mod Zero
