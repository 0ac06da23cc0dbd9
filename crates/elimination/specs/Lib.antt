pub mod Reduction
pub mod Rows
