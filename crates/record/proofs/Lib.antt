pub mod Filling
pub mod Behind
