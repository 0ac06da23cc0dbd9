pub mod Told
pub mod Solved
