mod Lists
pub mod Prefixes
pub mod Parting
mod Names
pub mod Steps
pub mod Following
mod Visits
mod Visited
mod Differs
mod Links
mod Labels
mod Acted
mod Descent
mod Record
mod Canonical
mod Ready
pub mod Fresh
mod Descending
mod Down
mod Counting
pub mod Wanted
pub mod CallerLemmas
