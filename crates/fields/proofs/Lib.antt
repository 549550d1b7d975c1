pub mod Fits
pub mod LayerLaws
