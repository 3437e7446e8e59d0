pub mod Text
pub mod Cell
pub mod Rows
pub mod Tree
pub mod Answers
