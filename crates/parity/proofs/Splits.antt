-- Document 01, 'Cycles and splits': laws of shares, the cycle count, splitting, taking back, the choice of the pair and orthogonalising. Assumes nothing.
pub mod Pairs
pub mod Common
pub mod Split
pub mod Cycles
pub mod Back
pub mod Undo
pub mod Given
pub mod Pick
pub mod Orthogonal
pub mod Holders
pub mod Splitting
pub mod MadeSplit
