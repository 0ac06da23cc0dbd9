pub mod Two
pub mod Answers
