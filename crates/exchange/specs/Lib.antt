pub mod Merge
pub mod Back
