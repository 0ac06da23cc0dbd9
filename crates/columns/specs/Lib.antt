pub mod Columns
pub mod Planes
pub mod Splits
pub mod Three
