pub mod Lone
pub mod Storing
pub mod Inside
pub mod Joining
pub mod Whole
