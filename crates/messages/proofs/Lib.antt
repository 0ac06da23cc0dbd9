pub mod Places
pub mod Word
pub mod Fill
