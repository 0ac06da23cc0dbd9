pub mod Row
pub mod Cursor
