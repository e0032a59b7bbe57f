mod Refused
pub mod LawProofs
mod Listed
mod GrowthSteps
mod LatticeLines
pub mod LatticeProofs
