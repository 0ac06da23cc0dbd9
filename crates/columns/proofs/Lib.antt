pub mod Adders
pub mod Apart
pub mod Filling
pub mod From
pub mod Making
pub mod Shares
pub mod Splitting
