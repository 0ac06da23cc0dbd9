pub mod Next
pub mod Zeros
pub mod Writing
pub mod Touch
