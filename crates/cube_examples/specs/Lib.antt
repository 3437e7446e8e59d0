pub mod Shop
pub mod Codes
pub mod Texts
pub mod Sales
