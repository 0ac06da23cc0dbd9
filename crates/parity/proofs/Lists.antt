-- Document 01, 'The words of demand 3': laws of lists of calls, and demand 3's proof; and document 000's theorems. Assumes nothing.
pub mod Built
pub mod Rebuilt
pub mod Chain
pub mod Holders
pub mod Demand3
pub mod Determined
pub mod Article
pub mod Theorems
pub mod Answered
pub mod Block
