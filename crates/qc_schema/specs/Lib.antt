pub mod Schema
pub mod Lines
pub mod Progress
pub mod Grammar
pub mod Spelling
