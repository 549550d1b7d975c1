pub mod ThreeLaws
