mod Points
mod Leasts
mod Filling
mod Meets
mod Namings
mod Tellings
mod Fibres
mod Quotients
mod Subschemes
mod Wholes
pub mod LawProofs
