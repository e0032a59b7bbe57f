pub mod LawProofs
pub mod Counts
pub mod Places
pub mod Rounds
pub mod Measure
pub mod Exists
pub mod ListLemmas
pub mod NamePlaces
pub mod Names
pub mod Closures
mod RawClosures
pub mod Walked
pub mod Few
pub mod ListReads
pub mod FirstPair
pub mod Meets
pub mod NumberedLists
pub mod Writes
mod SquareRows
pub mod Reaching
pub mod WalkPlaces
pub mod SideCodes
pub mod ColourSets
mod ClosedSets
pub mod SortedLists
pub mod ThoseLemmas
pub mod SubsetLemmas
pub mod TestLemmas
pub mod Below
pub mod SameColours
pub mod MetNumbers
pub mod SingleCounts
