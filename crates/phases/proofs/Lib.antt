pub mod Compact
pub mod Parts
pub mod Answering
pub mod Sends
