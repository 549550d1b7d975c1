-- Laws of running and of halved sums and of demand 3, and what they stand on.
pub mod Sums
pub mod Halved
pub mod Integers
pub mod Round
pub mod Whole
pub mod Values
pub mod Zero
pub mod Outside
pub mod Bounded
pub mod Outputs
pub mod Finite
pub mod Errors
pub mod Close
pub mod HalvedDemand
pub mod Demand
pub mod Inside
