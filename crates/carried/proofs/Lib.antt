pub mod Performing
pub mod Recovering
pub mod Newest
pub mod Standing
