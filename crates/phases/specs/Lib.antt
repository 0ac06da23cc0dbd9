pub mod Phases
pub mod Loops
