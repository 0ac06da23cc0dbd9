pub mod Masks
pub mod Three
