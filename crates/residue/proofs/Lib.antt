pub mod Gathering
pub mod Reading
pub mod Solving
