pub mod Parity
pub mod Adding
pub mod Running
pub mod Writing
pub mod Storing
pub mod Mending
