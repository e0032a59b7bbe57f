pub mod LawProofs
mod TestLists
mod TableSums
mod ArrayFacts
mod ShareLists
mod ValencyLists
mod LevelSums
mod NumberPlaces
mod WholeTests
pub mod ArrayLiterals
mod Neighbours
mod Distances
mod AcceptedArray
mod GraphDistances
