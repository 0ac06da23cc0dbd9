pub mod Answers
pub mod Placing
