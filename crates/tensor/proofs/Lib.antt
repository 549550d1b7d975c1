pub mod Table
pub mod Lines
pub mod Order
pub mod Element
pub mod Largest
pub mod Plane
pub mod Peaks
