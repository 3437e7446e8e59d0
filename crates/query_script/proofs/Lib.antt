mod Asking
mod LowFaults
mod PlainFields
mod Asked
mod CommandFacts
mod Listed
mod CodedFields
mod Commas
pub mod PinNames
mod AtNames
mod Wanting
pub mod CallerLemmas
