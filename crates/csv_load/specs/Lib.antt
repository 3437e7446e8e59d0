pub mod Batch
pub mod FieldTexts
pub mod Faults
pub mod Columns
pub mod Files
pub mod FileRows
