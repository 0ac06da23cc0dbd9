pub mod Picking
pub mod Clearing
pub mod Turns
pub mod Reduced
pub mod Echelons
