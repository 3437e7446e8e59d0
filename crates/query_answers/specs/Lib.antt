pub mod Lattice
pub mod Queries
