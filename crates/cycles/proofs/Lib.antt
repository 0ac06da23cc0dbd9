pub mod Given
pub mod Meeting
pub mod Weighing
