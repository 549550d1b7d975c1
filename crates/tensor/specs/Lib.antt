pub mod Table
pub mod Places
pub mod Element
pub mod Window
pub mod Plane
pub mod Peak
