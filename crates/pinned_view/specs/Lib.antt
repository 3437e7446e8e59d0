pub mod Past
pub mod Pins
pub mod Refusals
pub mod Stored
pub mod Versions
pub mod Views
