pub mod Causes
pub mod Rows
