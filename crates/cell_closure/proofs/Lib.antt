pub mod Rows
pub mod Closing
mod Runs
mod Reordering
mod Copies
mod Sorted
pub mod Stable
mod Counting
mod Swapped
mod Widths
pub mod CallerLemmas
