-- Document 01, 'The matrix': laws of the bits of words, the layout, cause 3, rule A and acceptance. Assumes nothing.
pub mod Digits
pub mod Ones
pub mod Rest
pub mod Lent
pub mod Packing
pub mod Clean
pub mod Rule
pub mod Sound
pub mod Accept
