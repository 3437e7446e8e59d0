pub mod Bounds
pub mod Views
pub mod Order
pub mod Quotients
pub mod Numbers
pub mod Texts
pub mod Rows
