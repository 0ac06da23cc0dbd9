pub mod Above
pub mod Sets
pub mod Losses
