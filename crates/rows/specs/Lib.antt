pub mod Rows
pub mod Zeros
pub mod Whole
