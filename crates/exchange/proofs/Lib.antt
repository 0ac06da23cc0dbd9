pub mod Common
pub mod Exchange
pub mod Restoring
pub mod ReadPair
