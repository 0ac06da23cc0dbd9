pub mod Ordering
pub mod Aloning
pub mod Planning
