pub mod Listed
pub mod Law
pub mod Result
