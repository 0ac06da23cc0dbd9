pub mod Setting
pub mod Ending
pub mod Readying
pub mod Refusing
