pub mod Course
pub mod Fitting
pub mod Judged
pub mod Told
pub mod Outcome
