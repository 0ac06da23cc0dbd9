pub mod Case
pub mod Table
pub mod Test
