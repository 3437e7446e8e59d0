pub mod Last
pub mod Places
pub mod Store
