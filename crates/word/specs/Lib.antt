pub mod Answers
pub mod Solved
pub mod Asked
