pub mod Capped
pub mod Modulus
