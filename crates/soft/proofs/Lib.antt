pub mod Places
pub mod Zipped
