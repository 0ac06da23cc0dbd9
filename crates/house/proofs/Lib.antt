pub mod Entries
pub mod Generated
pub mod Held
pub mod Names
