-- Document 02, M-112: laws of floats, of what checks and bits send, of the rounds and of the call's outcomes. Assumes nothing.
pub mod Numbers
pub mod Order
pub mod Forms
pub mod Counts
pub mod Cong
pub mod Exact
pub mod Sound
pub mod Fits
pub mod Rounds
pub mod Standing
pub mod Right
pub mod AsPeeling
pub mod Outcomes
