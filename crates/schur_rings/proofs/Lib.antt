pub mod LawProofs
mod GroupLemmas
mod ThinLemmas
mod ThinCoherence
mod ThinNames
mod RingLemmas
mod AxiomLemmas
mod NumberedColours
mod MiddleLemmas
