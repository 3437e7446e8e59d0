pub mod Labels
pub mod Walk
pub mod Renaming
pub mod Counts
pub mod Edges
pub mod GeneralizingCells
