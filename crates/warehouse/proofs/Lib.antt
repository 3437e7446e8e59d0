mod Counted
mod Causes
mod Changes
pub mod Decoding
mod Deletions
mod Growing
mod Indexed
mod NodeLists
mod Loads
mod ListedClasses
mod TreeInsertions
mod Inserting
mod Texts
mod Values
mod RisingIds
mod Rows
pub mod Pinned
pub mod States
mod Trees
mod MovedClasses
mod ChildLists
mod Wider
mod Images
mod Touching
mod Batches
mod Sizes
pub mod CallerLemmas
