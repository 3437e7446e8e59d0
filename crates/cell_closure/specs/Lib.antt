pub mod Parts
pub mod Runs
pub mod SomeRows
pub mod Copies
pub mod Counts
pub mod Widths
