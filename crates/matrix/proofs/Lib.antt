pub mod Masks
pub mod Three
pub mod Pairs
pub mod Passing
