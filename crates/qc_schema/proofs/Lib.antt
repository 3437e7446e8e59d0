mod Naming
mod Numbers
mod Searching
mod Short
pub mod Keeping
mod Reading
mod Wording
pub mod Returning
mod Spelled
pub mod Widening
pub mod CallerLemmas
