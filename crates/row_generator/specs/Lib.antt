pub mod Generator
pub mod Drawn
