pub mod OneWrite
pub mod PointCounts
pub mod SumCounts
pub mod PlaceLists
mod RowCodeLemmas
mod SideLemmas
mod TurnedLemmas
mod CompareLemmas
mod DotSums
mod HashLemmas
mod SortedPlaces
mod Swept
mod Coming
