pub mod Offset
pub mod Seen
pub mod Listing
