pub mod Pieces
pub mod Lines
