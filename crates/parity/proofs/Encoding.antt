-- Document 01, 'Encoding': laws of columns that are sums, of parity bits and of messages; and, ours, of the bits that hold a message. Assumes nothing.
pub mod Dependent
pub mod Encode
pub mod Messages
pub mod MessageBits
pub mod Promised
