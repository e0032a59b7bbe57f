pub mod GrowthStrings
pub mod Fusions
pub mod BlockSums
pub mod Signature
pub mod Rounds
pub mod Words
pub mod Laws
