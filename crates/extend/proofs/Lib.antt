pub mod Lower
pub mod Outcome
