mod Counted
mod StepUp
pub mod Joins
mod Coded
mod InOrder
mod Numbers
mod ChildLaws
mod NewValues
mod LabelsLead
mod Listing
mod OnWay
mod PickedNodes
mod PlacedOrder
mod ChildNodes
mod Rolled
pub mod RowCosts
mod Visited
mod Lowest
pub mod DecodedAlone
mod NodesDecoded
mod ParentNodes
mod Turns
pub mod CallerLemmas
