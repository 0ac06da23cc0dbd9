-- Document 01, 'Causes and numbers': laws of what a refusal decides. Assumes nothing.
pub mod Refused
pub mod Admit
