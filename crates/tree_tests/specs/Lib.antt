pub mod RootClass
pub mod Rows
pub mod Single
