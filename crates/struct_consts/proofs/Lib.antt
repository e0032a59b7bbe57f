pub mod LawProofs
mod Configurations
mod Constancy
mod ConstantSums
pub mod Sums
mod PassLemmas
mod LookupLemmas
mod KeptLemmas
