pub mod Perform
pub mod Recover
