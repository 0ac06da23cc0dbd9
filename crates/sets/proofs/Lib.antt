pub mod Above
pub mod Making
pub mod Eights
pub mod Single
pub mod Sizes
pub mod Short
