-- Document 02, 'Two senders' checks joined': laws of the joined checks, and what joining comes to. Assumes nothing.
pub mod Checks
pub mod Join
