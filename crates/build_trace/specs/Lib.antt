pub mod Walk
pub mod Trace
pub mod Follows
pub mod Ready
