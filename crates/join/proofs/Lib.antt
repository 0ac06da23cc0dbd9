pub mod Causes
pub mod Rows
pub mod Told
