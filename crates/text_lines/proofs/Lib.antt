mod Records
pub mod Sizes
pub mod TextRecords
pub mod Unmarked
mod Splits
mod WordSplits
pub mod Pieces
pub mod PlainLines
mod Fields
pub mod CallerLemmas
