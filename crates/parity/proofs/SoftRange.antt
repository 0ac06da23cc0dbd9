-- Document 02, M-113: finite 32-bit floats by a number for each, the min-sum of two numbers, and the laws of the range. Assumes nothing.
pub mod Keys
pub mod Clip
pub mod Pairs
pub mod Folded
pub mod Law
pub mod Outcomes
pub mod Zeros
