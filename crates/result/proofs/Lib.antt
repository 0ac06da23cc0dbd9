pub mod Agreeing
pub mod Word
pub mod Writing
