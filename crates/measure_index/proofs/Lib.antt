pub mod KeyLemmas
pub mod LowestTerms
pub mod EntryLemmas
pub mod Zips
pub mod WalkLemmas
pub mod Changed
pub mod Classes
pub mod Measured
pub mod Keyed
pub mod Filled
pub mod Units
pub mod FillingLemmas
mod Whole
pub mod Places
pub mod BlockLemmas
pub mod Comings
pub mod Deduped
pub mod CallerLemmas
