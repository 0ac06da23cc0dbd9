pub mod Placed
pub mod Lines
