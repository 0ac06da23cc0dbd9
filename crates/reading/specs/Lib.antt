pub mod Read
pub mod Judge
