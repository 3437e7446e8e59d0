pub mod Walk
pub mod PrefixNodes
pub mod Costs
pub mod Stands
pub mod Building
