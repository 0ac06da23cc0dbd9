pub mod Held
pub mod Start
pub mod Listing
