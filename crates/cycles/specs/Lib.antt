pub mod Crossings
pub mod Tallies
