pub mod LawProofs
pub mod Walks
mod Searches
mod Counting
mod FirstPlaces
mod Marks
mod TableLemmas
mod Regular
mod OneAnswer
mod SomeDistances
mod SomeTables
mod SomeAnswer
