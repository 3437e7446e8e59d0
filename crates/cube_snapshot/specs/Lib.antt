pub mod Format
pub mod Parts
pub mod Snapshot
pub mod Readers
pub mod States
