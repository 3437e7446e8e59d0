pub mod Lists
pub mod Total
pub mod Parts
pub mod Parting
pub mod Recoding
pub mod Tuples
pub mod Step
pub mod Counts
