pub mod Highest
pub mod Lifting
pub mod RowBounds
