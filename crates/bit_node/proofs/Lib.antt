pub mod Adding
pub mod SoftAlone
