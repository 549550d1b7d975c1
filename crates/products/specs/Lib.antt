-- The products of a convolution, as it reports them.
pub mod Pairs
pub mod Products
pub mod Axes
