-- Document 02, 'House codes from their rule': laws of the rules and of the words of their tables, and what copying a code comes to. Assumes nothing.
pub mod Rules
pub mod Copied
