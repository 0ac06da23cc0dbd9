pub mod Pivots
pub mod Told
