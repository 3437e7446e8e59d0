pub mod LongerCells
pub mod LongerRows
pub mod LongerRecords
pub mod LongerNodes
pub mod WidenedTrees
pub mod CallerLemmas
