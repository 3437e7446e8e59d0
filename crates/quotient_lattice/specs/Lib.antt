pub mod Neighbours
pub mod Joined
pub mod ValuesLead
pub mod Candidates
pub mod Costs
pub mod DecodedNodes
pub mod NodeCells
pub mod Visits
