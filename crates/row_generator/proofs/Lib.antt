mod Pieces
mod Fields
mod Records
mod Changes
mod Cells
