pub mod Other
pub mod Read
pub mod Judging
pub mod AllBits
