pub mod Refusals
pub mod Tests
pub mod Places
pub mod Signed
